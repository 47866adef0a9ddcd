-- A table of macros as a finite map: what is found in it, and what a change of it does.
use Rattle.std.proofs.Common.{◌≡◌, ℕ, Bool, true, false, cond, List, [], ◌∷◌, refl, sym, ◌∙◌, ap, subst, Option, Some, None}
use Rattle.std.specs.Prelude.{bytes_eq, option_map, is_some}
use Rattle.std.specs.declared.vec.Vec.{Vec}
use Rattle.std.specs.Ordering.{nat_cmp, eq_by_cmp}
use Rattle.std.specs.Cmp.Lexicographic.{nat_list_cmp_total, nat_list_eq_equiv, bytes_decides}
use Rattle.std.specs.Cmp.Lexicographic.{slice_cmp}
use Rattle.std.specs.Map.{lookup, IsKeyTest, AreApart, KeepsOthers}
use Rattle.std.specs.HashMap.{HashMap, UpdatesBy}
use Rattle.std.specs.FinMap as map
use Rattle.std.proofs.lemmas.Map.Text.{is_eq-slice_cmp}
use Rattle.v_lexer.specs.Entries.{entries_of}

abbrev pub Table : Type 0
Table = map.FinMap (slice_cmp nat_cmp) (List ℕ)

by_test : (b d : Bool) (x y : Option (List ℕ)) → b ≡ d → cond b x y ≡ cond d x y
by_test b d x y e = ap (λ t. cond t x y) e

items_by : {A : Type 0} (b : Bool) (v : Vec ℕ A) (rest : Option (Vec ℕ A))
    → cond b (Some v.items) (option_map (λ w. w.items) rest) ≡ option_map (λ w. w.items) (cond b (Some v) rest)
items_by true v rest = refl
items_by false v rest = refl

-- an entry is found by the bytes of its key
pub found_in : {A : Type 0} (entries : List (Vec ℕ A × Vec ℕ A)) (name : List ℕ)
    → map.find (slice_cmp nat_cmp) name (entries_of entries) ≡ option_map (λ w. w.items) (lookup (λ key. bytes_eq name key.items) entries)
found_in [] name = refl
found_in (entry ∷ entries) name =
    ap (cond (eq_by_cmp (slice_cmp nat_cmp) name entry.0.items) (Some entry.1.items)) (found_in entries name)
    ∙ by_test (eq_by_cmp (slice_cmp nat_cmp) name entry.0.items) (bytes_eq name entry.0.items) (Some entry.1.items)
    (option_map (λ w. w.items) (lookup (λ key. bytes_eq name key.items) entries)) (is_eq-slice_cmp name entry.0.items)
    ∙ items_by (bytes_eq name entry.0.items) entry.1 (lookup (λ key. bytes_eq name key.items) entries)

-- what a table has at a name
pub table_gets : {A : Type 0} (entries : List (Vec ℕ A × Vec ℕ A)) (name : List ℕ)
    → map.get (map.from_entries {R = slice_cmp nat_cmp} (entries_of entries)) name ≡ option_map (λ w. w.items) (lookup (λ key. bytes_eq name key.items) entries)
table_gets entries name = map.get-from_entries nat_list_cmp_total (entries_of entries) name ∙ found_in entries name

-- the text that a table has at a name
pub table_found : {A : Type 0} (m : Table) (entries : List (Vec ℕ A × Vec ℕ A)) (name : List ℕ) (o : Option (Vec ℕ A))
    → map.from_entries {R = slice_cmp nat_cmp} (entries_of entries) ≡ m → o ≡ lookup (λ key. bytes_eq name key.items) entries
    → map.get m name ≡ option_map (λ w. w.items) o
table_found m entries name o same found =
    subst (λ t. map.get t name ≡ option_map (λ w. w.items) o) same (table_gets entries name ∙ ap (option_map (λ w. w.items)) (sym found))

is_some_map : {A : Type 0} (o : Option (Vec ℕ A)) → is_some (option_map (λ w. w.items) o) ≡ is_some o
is_some_map (Some v) = refl
is_some_map None = refl

pub table_has : {A : Type 0} (m : Table) (entries : List (Vec ℕ A × Vec ℕ A)) (name : List ℕ)
    → map.from_entries {R = slice_cmp nat_cmp} (entries_of entries) ≡ m
    → is_some (lookup (λ key. bytes_eq name key.items) entries) ≡ is_some (map.get m name)
table_has m entries name same =
    sym (ap is_some (table_found m entries name (lookup (λ key. bytes_eq name key.items) entries) same refl)
    ∙ is_some_map (lookup (λ key. bytes_eq name key.items) entries))

other_entries : {K X : Type 0} (eq : K → K → Bool) (test : K → Bool) (old new : List (K × X)) → KeepsOthers eq test old new
    → (other : K → Bool) → IsKeyTest eq other → AreApart test other → lookup other new ≡ lookup other old
unfolding KeepsOthers
other_entries eq test old new h = h

apart : (bs cs ks : List ℕ) → bytes_eq bs cs ≡ false → bytes_eq bs ks ≡ true → bytes_eq cs ks ≡ false
apart bs cs ks n y = nat_list_eq_equiv.symm cs ks ∙ sym (nat_list_eq_equiv.congr bs ks cs y) ∙ n

by_bytes : {W : Type 0} (f g : List ℕ → W) (bs cs : List ℕ) (w : W) (b : Bool) → bytes_eq bs cs ≡ b → g bs ≡ w → (bytes_eq bs cs ≡ false → g cs ≡ f cs)
    → g cs ≡ cond b w (f cs)
by_bytes f g bs cs w true is here other = subst (λ l. g l ≡ w) ((bytes_decides bs cs).0 is) here
by_bytes f g bs cs w false is here other = other is

-- what a change at a name leaves at any name
changed : {A S : Type 0} (old new : HashMap (Vec ℕ A) (Vec ℕ A) S) (bs : List ℕ) (w : Option (Vec ℕ A))
    → UpdatesBy (λ x y. bytes_eq x.items y.items) (λ key. bytes_eq bs key.items) old new w → (cs : List ℕ)
    → lookup (λ key. bytes_eq cs key.items) new.entries ≡ cond (bytes_eq bs cs) w (lookup (λ key. bytes_eq cs key.items) old.entries)
changed old new bs w h cs =
    by_bytes (λ l. lookup (λ key. bytes_eq l key.items) old.entries) (λ l. lookup (λ key. bytes_eq l key.items) new.entries) bs cs w (bytes_eq bs cs) refl h.1
    (λ e. other_entries _ _ _ _ h.3 _ (λ x y. nat_list_eq_equiv.congr cs x.items y.items) (λ k. apart bs cs k.items e))

items_cond : {A : Type 0} (b : Bool) (w o : Option (Vec ℕ A))
    → option_map (λ v. v.items) (cond b w o) ≡ cond b (option_map (λ v. v.items) w) (option_map (λ v. v.items) o)
items_cond true w o = refl
items_cond false w o = refl

same_name : (bs cs : List ℕ) → bytes_eq bs cs ≡ eq_by_cmp (slice_cmp nat_cmp) cs bs
same_name bs cs = nat_list_eq_equiv.symm bs cs ∙ sym (is_eq-slice_cmp cs bs)

table_changed : {A S : Type 0} (old new : HashMap (Vec ℕ A) (Vec ℕ A) S) (bs : List ℕ) (w : Option (Vec ℕ A))
    → UpdatesBy (λ x y. bytes_eq x.items y.items) (λ key. bytes_eq bs key.items) old new w → (cs : List ℕ)
    → map.get (map.from_entries {R = slice_cmp nat_cmp} (entries_of new.entries)) cs
    ≡ cond (eq_by_cmp (slice_cmp nat_cmp) cs bs) (option_map (λ v. v.items) w) (map.get (map.from_entries {R = slice_cmp nat_cmp} (entries_of old.entries)) cs)
table_changed old new bs w h cs =
    table_gets new.entries cs
    ∙ ap (option_map (λ v. v.items)) (changed old new bs w h cs)
    ∙ items_cond (bytes_eq bs cs) w (lookup (λ key. bytes_eq cs key.items) old.entries)
    ∙ ap (λ b. cond b (option_map (λ v. v.items) w) (option_map (λ v. v.items) (lookup (λ key. bytes_eq cs key.items) old.entries))) (same_name bs cs)
    ∙ ap (cond (eq_by_cmp (slice_cmp nat_cmp) cs bs) (option_map (λ v. v.items) w)) (sym (table_gets old.entries cs))

-- the table after an entry was put in
pub table_inserted : {A S : Type 0} (m : Table) (old new : HashMap (Vec ℕ A) (Vec ℕ A) S) (key text : Vec ℕ A) (name body : List ℕ)
    → map.from_entries {R = slice_cmp nat_cmp} (entries_of old.entries) ≡ m → key.items ≡ name → text.items ≡ body
    → UpdatesBy (λ x y. bytes_eq x.items y.items) (λ k. bytes_eq key.items k.items) old new (Some text)
    → map.from_entries {R = slice_cmp nat_cmp} (entries_of new.entries) ≡ map.insert m name body
table_inserted m old new key text name body before keyed bodied h =
    map.same_map nat_list_cmp_total (map.slice_cmp-IsAntisymmetric map.nat_cmp-IsAntisymmetric)
    (map.from_entries {R = slice_cmp nat_cmp} (entries_of new.entries)) (map.insert (map.from_entries {R = slice_cmp nat_cmp} (entries_of old.entries)) key.items text.items)
    (λ q. table_changed old new key.items (Some text) h q ∙ sym (map.get-insert nat_list_cmp_total (map.from_entries {R = slice_cmp nat_cmp} (entries_of old.entries)) key.items text.items q))
    ∙ ap (λ t. map.insert t key.items text.items) before ∙ ap (λ k. map.insert m k text.items) keyed ∙ ap (map.insert m name) bodied

-- the table after an entry was taken out
pub table_removed : {A S : Type 0} (m : Table) (old new : HashMap (Vec ℕ A) (Vec ℕ A) S) (name : List ℕ)
    → map.from_entries {R = slice_cmp nat_cmp} (entries_of old.entries) ≡ m
    → UpdatesBy (λ x y. bytes_eq x.items y.items) (λ k. bytes_eq name k.items) old new None
    → map.from_entries {R = slice_cmp nat_cmp} (entries_of new.entries) ≡ map.remove m name
table_removed m old new name before h =
    map.same_map nat_list_cmp_total (map.slice_cmp-IsAntisymmetric map.nat_cmp-IsAntisymmetric)
    (map.from_entries {R = slice_cmp nat_cmp} (entries_of new.entries)) (map.remove (map.from_entries {R = slice_cmp nat_cmp} (entries_of old.entries)) name)
    (λ q. table_changed old new name None h q ∙ sym (map.get-remove nat_list_cmp_total (map.from_entries {R = slice_cmp nat_cmp} (entries_of old.entries)) name q))
    ∙ ap (λ t. map.remove t name) before
