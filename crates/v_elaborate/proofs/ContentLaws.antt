-- What an instance's text makes: the same however much is left, as many children as are counted, and none at the last level.
use Rattle.std.proofs.Common.{◌≡◌, ℕ, zero, suc, ◌+◌, List, [], ◌∷◌, ◌++◌, length, refl, sym, ap, ◌∙◌, subst, arith, length-append, append_assoc, append-nil}
use Rattle.std.specs.Prelude.{⊤, Result, Ok, Err}
use Rattle.loc_base.specs.declared.span.Span.{Span}
use Rattle.v_syntax.specs.declared.site.Site.{Site}
use Rattle.v_syntax.specs.StatementTree.{PlainStatement}
use Rattle.v_syntax.specs.ItemTree.{PlainSensitivity, PlainItem, items_of}
use Rattle.v_syntax.specs.ModuleTree.{PlainModule}
use Rattle.v_hierarchy.specs.declared.error.ElabErr.{ElabErr}
use Rattle.v_hierarchy.specs.declared.left.Left.{Left}
use Rattle.v_hierarchy.specs.Steps.{◌>>=◌, less_of, turned, placed}
use Rattle.v_hierarchy.specs.Names.{Entry}
use Rattle.v_hierarchy.specs.Parameters.{header_parameters}
use Rattle.v_hierarchy.specs.Headers.{header_ports}
use Rattle.v_hierarchy.specs.Unrolled.{Steps, unrolled}
use Rattle.v_hierarchy.specs.Items.{Child, Copied, written, always, child, inner, turn, Block, scope, Copies, no_copy, copy, and_copy, Place, Met, with_names, with_copy, not_deeper, turn_met, begins, ends, items}
use Rattle.v_hierarchy.specs.Instances.{place_of, contents, children, made_by}
use Rattle.v_hierarchy.specs.Hierarchy.{Makes}
use Rattle.v_elaborate.specs.Laws.{copies_turns, made_turns}
use Rattle.v_elaborate.proofs.Runs.{Ok-same, Err-Ok, both, apart, ended}
use Rattle.v_elaborate.proofs.UnrolledRuns.{turned-keeps, turned-less, unrolled-alike}
use Rattle.v_elaborate.proofs.ItemRuns.{met_of, Kept, items-run}

-- ---- names and what is made are the same
pub record Same (k : ⊤) (m n : Met) : Type 0 where
  pub names : m.names ≡ n.names
  pub copies : m.copies ≡ n.copies

same-kept : (one other : ℕ) → Kept ⊤ Same Same one other
same-kept one other = record {
  names = λ k m n h. h.names;
  declares = λ k m n more h. record { names = refl; copies = h.copies };
  writes = λ k m n x h. record { names = h.names; copies = ap (λ c. and_copy c (written x)) h.copies };
  unrolls = λ k m n s events frames body x y h ran ran'.
      let e = unrolled-alike frames body m.left n.left x y ran ran' in
      record { names = h.names; copies = ap (λ c. and_copy c (always s events x.0)) h.copies ∙ ap (λ b. and_copy n.copies (always s events b)) e.same };
  places = λ k m n s c span u v l r h deep deep' at at'. record { names = h.names; copies = ap (λ cs. and_copy cs (child s c)) h.copies };
  turns = λ k m n span a b h first second. turn-same m n span a b h first second;
  inside = λ k m n h. tt;
  scope_begins = λ k m n h. record { names = refl; copies = refl };
  scope_ends = λ k m n h x y e path. ended-same m n h x y e (λ names copies. inner (scope path names copies));
  turn_inside = λ k m n h. tt;
  turn_begins = λ k m n h. record { names = refl; copies = refl };
  turn_ends = λ k m n h x y e path variable value. ended-same m n h x y e (λ names copies. turn variable value (scope path names copies));
}
  where
    ended-same : (m n : Met) → Same tt m n → (x y : Met) → Same tt x y → (made : List Entry → Copies → Copied)
        → Same tt (ends m x (made x.names x.copies)) (ends n y (made y.names y.copies))
    ended-same m n h x y e made = record {
      names = h.names;
      copies = ap (λ c. and_copy c (made x.names x.copies)) h.copies
          ∙ ap (λ names. and_copy n.copies (made names x.copies)) e.names
          ∙ ap (λ copies. and_copy n.copies (made y.names copies)) e.copies;
    }

    turn-same : (m n : Met) (span : Span) (a b : Met) → Same tt m n → turn_met span m ≡ Ok a → turn_met span n ≡ Ok b → Same tt a b
    turn-same m n span a b h first second =
        apart (turned span m.left) (turned span n.left) _ _ a b (Same tt a b) first second λ l r _ _ first second.
        ended (Same tt) (met_of m.names m.copies l) (met_of n.names n.copies r) a b first second (record { names = h.names; copies = h.copies })

-- an instance makes one thing
pub makes-same : (units : List PlainModule) (c : Child) (m n : Met) → Makes units c m → Makes units c n → Same tt m n
makes-same units c m n one other =
    both (header_parameters c.values c.«module».parameters >>= header_ports c.«module») _ _ m n (Same tt m n) one.makes other.makes λ names first second.
    items-run ⊤ Same Same one.levels other.levels (same-kept one.levels other.levels) (items_of c.«module».items) (place_of units 0 c) tt
    (begins names one.left) (begins names other.left) m n (record { names = refl; copies = refl }) first second

-- ---- children
pub children-and_copy : (cs : Copies) (x : Copied) → children (and_copy cs x) ≡ children cs ++ made_by x
children-and_copy no_copy x = append-nil (made_by x)
children-and_copy (copy y rest) x = ap (λ ds. made_by y ++ ds) (children-and_copy rest x) ∙ sym (append_assoc (made_by y) (children rest) (made_by x))

turns-and_copy : (cs : Copies) (x : Copied) → copies_turns (and_copy cs x) ≡ copies_turns cs + made_turns x
turns-and_copy no_copy x = omega arith
turns-and_copy (copy y rest) x = omega (arith, turns-and_copy rest x)

-- how many children and turns are made, with those that are left, `now` turns before the last is met; and no children where no
-- level is left
pub record Counted (levels now : ℕ) (k : Left) (m n : Met) : Type 0 where
  pub same : m ≡ n
  pub total : length (children m.copies) + m.left.instances ≡ k.instances
  pub turns : now + (copies_turns m.copies + m.left.turns) ≡ k.turns
  pub last : levels ≡ 0 → children m.copies ≡ []

-- one run beside itself
alone : (levels now : ℕ) (k : Left) (m n : Met) → Counted levels now k m n → Counted levels now k m m
alone levels now k m n h = record { same = refl; total = h.total; turns = h.turns; last = h.last }

-- a step that makes no children
still : (levels : ℕ) (k : Left) (m : Met) (x : Copied) (names : List Entry) (l : Left) → made_by x ≡ [] → l.instances ≡ m.left.instances → made_turns x + l.turns ≡ m.left.turns
    → Counted levels 0 k m m → Counted levels 0 k (met_of names (and_copy m.copies x) l) (met_of names (and_copy m.copies x) l)
still levels k m x names l none keeps turned h =
    let made : children (and_copy m.copies x) ≡ children m.copies =
    children-and_copy m.copies x ∙ ap (λ ds. children m.copies ++ ds) none ∙ append-nil (children m.copies) in
    record {
      same = refl;
      total = omega (arith, ap length made, h.total, keeps);
      turns = omega (arith, turns-and_copy m.copies x, h.turns, turned);
      last = λ zero. made ∙ h.last zero;
    }

placed-less : (span : Span) (l m : Left) → placed span l ≡ Ok m → (l.instances ≡ suc m.instances) × (l.turns ≡ m.turns)
placed-less span l m is = go l.instances is
  where
    go : (n : ℕ) → less_of n span >>= (λ n. Ok (record { turns = l.turns; instances = n })) ≡ Ok m → (n ≡ suc m.instances) × (l.turns ≡ m.turns)
    go zero is = Err-Ok is
    go (suc n) is = (ap suc (ap (λ (x : Left). x.instances) (Ok-same is)), ap (λ (x : Left). x.turns) (Ok-same is))

deeper : (levels : ℕ) (span : Span) (u : ⊤) → not_deeper levels span ≡ Ok u → levels ≡ 0 → (P : Type 0) → P
deeper zero span u is none P = Err-Ok is
deeper (suc l) span u is none P = absurd (omega (arith, none))

one-more : (levels : ℕ) (k : Left) (m : Met) (s : Site) (c : Child) (span : Span) (u : ⊤) (l : Left) → Counted levels 0 k m m → not_deeper levels span ≡ Ok u → placed span m.left ≡ Ok l
    → Counted levels 0 k (with_copy (met_of m.names m.copies l) (child s c)) (with_copy (met_of m.names m.copies l) (child s c))
one-more levels k m s c span u l h deep at =
    let made : children (and_copy m.copies (child s c)) ≡ children m.copies ++ c ∷ [] = children-and_copy m.copies (child s c) in
    let less = placed-less span m.left l at in
    record {
      same = refl;
      total = omega (arith, ap length made, length-append (children m.copies) (c ∷ []), h.total, less.0);
      turns = omega (arith, turns-and_copy m.copies (child s c), h.turns, less.1);
      last = λ zero. deeper levels span u deep zero (children (and_copy m.copies (child s c)) ≡ []);
    }

turn-counted : (levels : ℕ) (k : Left) (m : Met) (span : Span) (a : Met) → Counted levels 0 k m m → turn_met span m ≡ Ok a → Counted levels 1 k a a
turn-counted levels k m span a h first =
    apart (turned span m.left) (turned span m.left) _ _ a a (Counted levels 1 k a a) first first λ l r is _ first _.
    let keeps = turned-keeps span m.left l is in
    let less = turned-less span m.left l is in
    subst (λ (p : Met). Counted levels 1 k p p) (Ok-same first) (record { same = refl; total = omega (arith, h.total, keeps); turns = omega (arith, h.turns, less); last = h.last })

-- a scope that ends, of which so many turns are the one that it is
scope-counted : (levels now : ℕ) (k : Left) (m : Met) → Counted levels now k m m → (x : Met) → Counted levels 0 m.left x x → (made : Copied)
    → made_by made ≡ children x.copies → made_turns made ≡ now + copies_turns x.copies → Counted levels 0 k (ends m x made) (ends m x made)
scope-counted levels now k m h x e made makes turns =
    let all : children (and_copy m.copies made) ≡ children m.copies ++ children x.copies =
    children-and_copy m.copies made ∙ ap (λ ds. children m.copies ++ ds) makes in
    record {
      same = refl;
      total = omega (arith, ap length all, length-append (children m.copies) (children x.copies), h.total, e.total);
      turns = omega (arith, turns-and_copy m.copies made, turns, h.turns, e.turns);
      last = λ zero. all ∙ ap (λ ds. ds ++ children x.copies) (h.last zero) ∙ e.last zero;
    }

counted-kept : (levels : ℕ) → Kept Left (Counted levels 0) (Counted levels 1) levels levels
counted-kept levels = record {
  names = λ k m n h. ap (λ (p : Met). p.names) h.same;
  declares = λ k m n more h. record { same = ap (λ (p : Met). with_names p more) h.same; total = h.total; turns = h.turns; last = h.last };
  writes = λ k m n x h.
      subst (λ (p : Met). Counted levels 0 k (with_copy m (written x)) (with_copy p (written x))) h.same
      (still levels k m (written x) m.names m.left refl refl (omega arith) (alone levels 0 k m n h));
  unrolls = λ k m n s events frames body x y h ran ran'.
      let e = unrolled-alike frames body m.left m.left x x ran ran in
      subst (λ (p : Met × (Steps × Left)). Counted levels 0 k (with_copy (met_of m.names m.copies x.1) (always s events x.0)) (with_copy (met_of p.0.names p.0.copies p.1.1) (always s events p.1.0)))
      (pair m n x y h.same (Ok-same (sym ran ∙ ap (λ (p : Met). unrolled frames body p.left) h.same ∙ ran')))
      (still levels k m (always s events x.0) m.names x.1 refl e.kept e.total (alone levels 0 k m n h));
  places = λ k m n s c span u v l r h deep deep' at at'.
      subst (λ (p : Met × Left). Counted levels 0 k (with_copy (met_of m.names m.copies l) (child s c)) (with_copy (met_of p.0.names p.0.copies p.1) (child s c)))
      (both-same m n l r h.same (Ok-same (sym at ∙ ap (λ (p : Met). placed span p.left) h.same ∙ at')))
      (one-more levels k m s c span u l (alone levels 0 k m n h) deep at);
  turns = λ k m n span a b h first second.
      subst (λ p. Counted levels 1 k a p) (Ok-same (sym first ∙ ap (turn_met span) h.same ∙ second)) (turn-counted levels k m span a (alone levels 0 k m n h) first);
  inside = λ k m n h. m.left;
  scope_begins = λ k m n h. begins-counted m n h.same;
  scope_ends = λ k m n h x y e path.
      subst (λ (p : Met × Met). Counted levels 0 k (ends m x (inner (scope path x.names x.copies))) (ends p.0 p.1 (inner (scope path p.1.names p.1.copies))))
      (mets m n x y h.same e.same)
      (scope-counted levels 0 k m (alone levels 0 k m n h) x (alone levels 0 m.left x y e) (inner (scope path x.names x.copies)) refl (omega arith));
  turn_inside = λ k m n h. m.left;
  turn_begins = λ k m n h. begins-counted m n h.same;
  turn_ends = λ k m n h x y e path variable value.
      subst (λ (p : Met × Met). Counted levels 0 k (ends m x (turn variable value (scope path x.names x.copies))) (ends p.0 p.1 (turn variable value (scope path p.1.names p.1.copies))))
      (mets m n x y h.same e.same)
      (scope-counted levels 1 k m (alone levels 1 k m n h) x (alone levels 0 m.left x y e) (turn variable value (scope path x.names x.copies)) refl (omega arith));
}
  where
    pair : (m n : Met) (x y : Steps × Left) → m ≡ n → x ≡ y → ◌≡◌ {A = Met × (Steps × Left)} (m, x) (n, y)
    pair m n x y e e' = ap (λ (p : Met). (p, x)) e ∙ ap (λ (q : Steps × Left). (n, q)) e'

    both-same : (m n : Met) (l r : Left) → m ≡ n → l ≡ r → ◌≡◌ {A = Met × Left} (m, l) (n, r)
    both-same m n l r e e' = ap (λ (p : Met). (p, l)) e ∙ ap (λ (q : Left). (n, q)) e'

    mets : (m n x y : Met) → m ≡ n → x ≡ y → ◌≡◌ {A = Met × Met} (m, x) (n, y)
    mets m n x y e e' = ap (λ (p : Met). (p, x)) e ∙ ap (λ (q : Met). (n, q)) e'

    begins-counted : (m n : Met) → m ≡ n → Counted levels 0 m.left (begins [] m.left) (begins [] n.left)
    begins-counted m n same = record { same = ap (λ (p : Met). begins [] p.left) same; total = omega arith; turns = omega arith; last = λ zero. refl }

-- an instance's children and turns are counted
pub contents-counted : (units : List PlainModule) (levels : ℕ) (c : Child) (left : Left) (met : Met) → contents units levels c left ≡ Ok met
    → Counted levels 0 left met met
contents-counted units levels c left met is =
    both (header_parameters c.values c.«module».parameters >>= header_ports c.«module») _ _ met met (Counted levels 0 left met met) is is λ names first second.
    items-run Left (Counted levels 0) (Counted levels 1) levels levels (counted-kept levels) (items_of c.«module».items) (place_of units 0 c) left
    (begins names left) (begins names left) met met (record { same = refl; total = omega arith; turns = omega arith; last = λ zero. refl }) first second
