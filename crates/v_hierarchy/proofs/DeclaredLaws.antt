-- What is found after a declaration, and that it stands for something.
use Rattle.std.proofs.Common.{◌≡◌, ℕ, Bool, true, false, List, [], ◌∷◌, ◌++◌, Option, Some, None, refl, sym, ap, ◌∙◌, subst}
use Rattle.std.specs.Prelude.{if◌then◌else◌, option_map, Result, Ok, Err}
use Rattle.std.specs.Option.{option_or}
use Rattle.std.proofs.lemmas.Option.{none-some}
use Rattle.std.proofs.lemmas.Slice.Eq.{bytes_eq-Decides}
use Rattle.v_sizes.specs.declared.meaning.Meaning.{Meaning}
use Rattle.v_sizes.specs.Context.{IsMeaning}
use Rattle.v_hierarchy.specs.declared.error.ElabErr.{ElabErr}
use Rattle.v_hierarchy.specs.declared.bounds.Bounds.{Bounds}
use Rattle.v_hierarchy.specs.declared.signal.Signal.{Signal}
use Rattle.v_hierarchy.specs.Names.{Entry, Standing, signal, array, integer, genvar, constant, same_name, find, again, declared, may_join, joined, meaning_of, look_in, find_in}
use Rattle.v_hierarchy.specs.Stands.{Stands}
use Rattle.v_hierarchy.proofs.FrameLaws.{declared-is, declared-fresh, behind, both_of}

-- a name is itself
pub same-itself : (name : List ℕ) → same_name name name ≡ true
same-itself name = (bytes_eq-Decides name name).1 refl

-- what a name is declared as next, if it may be
abbrev pub next_standing : Option Standing → Standing → Option Standing
next_standing None new = Some new
next_standing (Some old) new = again old new

-- another name stays
pub other-declared : (new : Entry) (es after : List Entry) (q : List ℕ) → declared new es ≡ Ok after → same_name new.name.name q ≡ false → find q after ≡ find q es
other-declared new [] after q is other =
    let e : new ∷ [] ≡ after = cc in
    ap (find q) (sym e) ∙ ap (λ b. if b then Some new.standing else None) other
other-declared new (old ∷ rest) after q is other =
    step (same_name old.name.name new.name.name) refl (again old.standing new.standing) (declared new rest) (sym (declared-is new old rest) ∙ is)
    (λ more e. other-declared new rest more q e other)
  where
    apart : same_name old.name.name new.name.name ≡ true → same_name old.name.name q ≡ false
    apart same = ap (λ n. same_name n q) ((bytes_eq-Decides old.name.name new.name.name).0 same) ∙ other

    step : (same : Bool) → same_name old.name.name new.name.name ≡ same → (both : Option Standing) (next : Result (List Entry) ElabErr)
        → (if same then both_of old new rest both else behind old next) ≡ Ok after
        → ((more : List Entry) → next ≡ Ok more → find q more ≡ find q rest) → find q after ≡ find q (old ∷ rest)
    step true same (Some both) next e more =
        let at : record { name = old.name; standing = both } ∷ rest ≡ after = cc in
        ap (find q) (sym at) ∙ ap (λ b. if b then Some both else find q rest) (apart same)
        ∙ sym (ap (λ b. if b then Some old.standing else find q rest) (apart same))
    step true same None next e more = cc
    step false same both (Ok xs) e more =
        let at : old ∷ xs ≡ after = cc in
        ap (find q) (sym at) ∙ ap (λ o. if same_name old.name.name q then Some old.standing else o) (more xs refl)
    step false same both (Err x) e more = cc

-- the name itself is there
pub record Own (new : Standing) (before after : Option Standing) : Type 0 where
  pub standing : Standing
  pub is : after ≡ Some standing
  pub next : next_standing before new ≡ Some standing

pub own-declared : (new : Entry) (es after : List Entry) → declared new es ≡ Ok after
    → Own new.standing (find new.name.name es) (find new.name.name after)
own-declared new [] after is =
    let e : new ∷ [] ≡ after = cc in
    record { standing = new.standing; is = ap (find new.name.name) (sym e) ∙ ap (λ b. if b then Some new.standing else None) (same-itself new.name.name); next = refl }
own-declared new (old ∷ rest) after is =
    step (same_name old.name.name new.name.name) refl (again old.standing new.standing) refl (declared new rest) (sym (declared-is new old rest) ∙ is)
    (λ more e. own-declared new rest more e)
  where
    found : Bool → Standing → Option Standing → Option Standing
    found b s o = if b then Some s else o

    step : (same : Bool) → same_name old.name.name new.name.name ≡ same → (both : Option Standing) → again old.standing new.standing ≡ both
        → (next : Result (List Entry) ElabErr) → (if same then both_of old new rest both else behind old next) ≡ Ok after
        → ((more : List Entry) → next ≡ Ok more → Own new.standing (find new.name.name rest) (find new.name.name more))
        → Own new.standing (find new.name.name (old ∷ rest)) (find new.name.name after)
    step true same (Some both) joins next e more =
        let at : record { name = old.name; standing = both } ∷ rest ≡ after = cc in
        record {
          standing = both;
          is = ap (find new.name.name) (sym at) ∙ ap (λ b. if b then Some both else find new.name.name rest) same;
          next = ap (λ b. next_standing (if b then Some old.standing else find new.name.name rest) new.standing) same ∙ joins;
        }
    step true same None joins next e more = cc
    step false same both joins (Ok xs) e more =
        let at : old ∷ xs ≡ after = cc in
        let own = more xs refl in
        record {
          standing = own.standing;
          is = ap (find new.name.name) (sym at) ∙ ap (λ b. if b then Some old.standing else find new.name.name xs) same ∙ own.is;
          next = ap (λ b. next_standing (if b then Some old.standing else find new.name.name rest) new.standing) same ∙ own.next;
        }
    step false same both joins (Err x) e more = cc

own-next : (before : Option Standing) (new s : Standing) → before ≡ None → next_standing before new ≡ Some s → s ≡ new
own-next None new s none is = let e : new ≡ s = cc in sym e
own-next (Some old) new s none is = absurd (none-some old (sym none))

-- a name that is new is as it is declared
pub own-appended : (new : Entry) (es : List Entry) → find new.name.name es ≡ None → find new.name.name (es ++ new ∷ []) ≡ Some new.standing
own-appended new es none =
    let own = own-declared new es (es ++ new ∷ []) (declared-fresh new es none) in
    own.is ∙ ap Some (own-next (find new.name.name es) new.standing own.standing none own.next)

-- ---- meanings
-- two declarations of a signal together have a range that one of them has
stands-joined : (one other : Signal) → IsMeaning (meaning_of (signal one)) → IsMeaning (meaning_of (signal other)) → IsMeaning (meaning_of (signal (joined one other)))
stands-joined one other first second = by one.bounds refl
  where
    by : (b : Option Bounds) → one.bounds ≡ b → IsMeaning (meaning_of (signal (joined one other)))
    by None e = subst (λ b. IsMeaning (meaning_of (signal (record { direction = None; kind = None; signed = true; bounds = option_or b other.bounds })))) (sym e) second
    by (Some x) e = subst (λ b. IsMeaning (meaning_of (signal (record { direction = None; kind = None; signed = true; bounds = option_or b other.bounds })))) (sym e)
        (subst (λ b. IsMeaning (meaning_of (signal (record { direction = None; kind = None; signed = true; bounds = b })))) e first)

pub stands-again : (one other both : Standing) → IsMeaning (meaning_of one) → IsMeaning (meaning_of other) → again one other ≡ Some both → IsMeaning (meaning_of both)
stands-again (signal a) (signal b) both first second is = by (may_join a b) is
  where
    by : (may : Bool) → (if may then Some (signal (joined a b)) else None) ≡ Some both → IsMeaning (meaning_of both)
    by true e = let at : signal (joined a b) ≡ both = cc in subst (λ s. IsMeaning (meaning_of s)) at (stands-joined a b first second)
    by false e = absurd (none-some both e)
stands-again (signal a) (array b r) both first second is = absurd (none-some both is)
stands-again (signal a) integer both first second is = absurd (none-some both is)
stands-again (signal a) genvar both first second is = absurd (none-some both is)
stands-again (signal a) (constant c r) both first second is = absurd (none-some both is)
stands-again (array a r) other both first second is = absurd (none-some both is)
stands-again integer other both first second is = absurd (none-some both is)
stands-again genvar other both first second is = absurd (none-some both is)
stands-again (constant c r) other both first second is = absurd (none-some both is)

stands-next : (before : Option Standing) (new both : Standing) → ((s : Standing) → before ≡ Some s → IsMeaning (meaning_of s)) → IsMeaning (meaning_of new)
    → next_standing before new ≡ Some both → IsMeaning (meaning_of both)
stands-next None new both old one is = let at : new ≡ both = cc in subst (λ s. IsMeaning (meaning_of s)) at one
stands-next (Some s) new both old one is = stands-again s new both (old s refl) one is

-- what is found in a scope
pub found-stands : (es : List Entry) (q : List ℕ) (s : Standing) → Stands es → find q es ≡ Some s → IsMeaning (meaning_of s)
found-stands es q s all is = all q (meaning_of s) (ap (λ o. option_map meaning_of (option_or o None)) is)

pub stands-declared : (new : Entry) (es after : List Entry) → IsMeaning (meaning_of new.standing) → Stands es → declared new es ≡ Ok after → Stands after
stands-declared new es after one all is q m at = by (same_name new.name.name q) refl
  where
    own : Own new.standing (find new.name.name es) (find new.name.name after)
    own = own-declared new es after is

    by : (same : Bool) → same_name new.name.name q ≡ same → IsMeaning m
    by false other = all q m (ap (λ o. option_map meaning_of (option_or o None)) (sym (other-declared new es after q is other)) ∙ at)
    by true same =
        let here : find q after ≡ Some own.standing = ap (λ n. find n after) (sym ((bytes_eq-Decides new.name.name q).0 same)) ∙ own.is in
        let is_m : Some (meaning_of own.standing) ≡ Some m = sym (ap (λ o. option_map meaning_of (option_or o None)) here) ∙ at in
        let same_m : meaning_of own.standing ≡ m = cc in
        subst IsMeaning same_m (stands-next (find new.name.name es) new.standing own.standing (λ s. found-stands es new.name.name s all) one own.next)

-- ---- what a scope inside others shows after a declaration
pub look-declared : (new : Entry) (es after : List Entry) (outer : List (List Entry)) (s : Standing) (q : List ℕ) → declared new es ≡ Ok after
    → find new.name.name after ≡ Some s → (if same_name new.name.name q then Some (meaning_of s) else look_in (es ∷ outer) q) ≡ look_in (after ∷ outer) q
look-declared new es after outer s q is own = by (same_name new.name.name q) refl
  where
    by : (same : Bool) → same_name new.name.name q ≡ same → (if same then Some (meaning_of s) else look_in (es ∷ outer) q) ≡ look_in (after ∷ outer) q
    by true same =
        let here : find q after ≡ Some s = ap (λ n. find n after) (sym ((bytes_eq-Decides new.name.name q).0 same)) ∙ own in
        sym (ap (λ o. option_map meaning_of (option_or o (find_in outer q))) here)
    by false other = ap (λ o. option_map meaning_of (option_or o (find_in outer q))) (sym (other-declared new es after q is other))
