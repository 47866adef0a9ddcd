-- What a freed statement leaves: the design's own bits as the statement leaves them, where none of its new places is freed.
use Rattle.std.proofs.Common.{ℕ, ◌≡◌, Bool, true, false, ◌&&◌, ◌||◌, List, [], ◌∷◌, ◌++◌, length, refl, ap, ◌∙◌, arith}
use Rattle.std.specs.Prelude.{◌==◌, nat_le, if◌then◌else◌, bit_or}
use Rattle.std.specs.List.{list_any, list_all}
use Rattle.std.proofs.lemmas.Bool.{and_parts, cond-true, cond-false}
use Rattle.loc_base.specs.Bits.{width_of, value_of}
use Rattle.design_core.specs.declared.signal.Signal.{Signal}
use Rattle.design_core.specs.declared.place.Place.{Place}
use Rattle.design_core.specs.declared.expression.Typed.{Typed}
use Rattle.design_core.specs.declared.statement.Target.{Target}
use Rattle.design_core.specs.declared.statement.Label.{Label}
use Rattle.design_core.specs.declared.statement.Stmt.{Stmt, Row_of-Stmt, end_of-Stmt, more_of-Stmt, Row_of-CaseItem, end_of-CaseItem, more_of-CaseItem}
use Rattle.design_core.specs.declared.statement.Stmt.TheVariants.{Nothing, Block', If', Case', Set}
use Rattle.design_core.specs.Valuation.{Valuation, bit, width_at}
use Rattle.design_core.specs.Constant.{is_constant}
use Rattle.design_core.specs.Operator.{is_true}
use Rattle.design_core.specs.Value.{value}
use Rattle.design_core.specs.Store.{parts_width}
use Rattle.design_core.specs.After.{Choice, assigned, Updates, matches, after_set, after, after_all, after_case}
use Rattle.design_core.specs.WellFormed.{is_width, typed_fits, part_fits, label_fits, place_fits, assignment_fits, statement_fits, statements_fit, items_fit}
use Rattle.freed_conditions.specs.Kept.{Next, behind, behind_one, truth, kept_of, subject_of, whole, keep}
use Rattle.freed_conditions.specs.Widths.{widths, widths_of, widths_in}
use Rattle.freed_conditions.specs.Freed.{both, freed, freed_all, freed_in}
use Rattle.freed_conditions.specs.Laws.{GoesByItsNet}
use Rattle.freed_conditions.specs.Alike.{AgreeBelow, Alike, Room}
use Rattle.freed_conditions.proofs.ValueAlike.{value-alike}
use Rattle.freed_conditions.proofs.StoreAlike.{after_set-alike}
use Rattle.freed_conditions.proofs.Rooms.{room-left, room-right, room-wide, room-next, room-own}
use Rattle.freed_conditions.proofs.KeptLaws.{keep-alike, same_arm, same_subject}

-- ---- an `if` or a `case` whose condition isn't a constant
pub after-freed_if : (signals : List Signal) (choice : Choice) (n : Next) (test : Typed) (on_true on_false : Stmt) (m : Updates) → is_constant test.node ≡ false
    → after signals choice (freed n (If' test _ (more_of-Stmt on_true end_of-Stmt) _ (more_of-Stmt on_false end_of-Stmt))) m
    ≡ (let k = after signals choice (keep n (truth test)) m in
    if is_true (value signals k.now (whole 1 false n.signal))
    then after signals choice (freed (behind_one n) on_true) k
    else after signals choice (freed (behind (widths on_true) (behind_one n)) on_false) k)
after-freed_if signals choice n test on_true on_false m is =
    ap (λ s. after signals choice s m)
    (cond-false (is_constant test.node)
    (If' test _ (more_of-Stmt (freed n on_true) end_of-Stmt) _ (more_of-Stmt (freed (behind (widths on_true) n) on_false) end_of-Stmt))
    (both (keep n (truth test))
    (If' (whole 1 false n.signal) _ (more_of-Stmt (freed (behind_one n) on_true) end_of-Stmt)
    _ (more_of-Stmt (freed (behind (widths on_true) (behind_one n)) on_false) end_of-Stmt))) is)

pub after-freed_case : (signals : List Signal) (choice : Choice) (n : Next) (subject : Typed) (shape : _) (items : _) (other : Stmt) (wild : Bool) (m : Updates)
    → is_constant subject.node ≡ false
    → after signals choice (freed n (Case' subject shape items _ (more_of-Stmt other end_of-Stmt) wild)) m
    ≡ (let k = after signals choice (keep n (kept_of subject)) m in
    after_case signals choice (value signals k.now (subject_of subject n.signal)) (freed_in (behind_one n) items) k
    (after signals choice (freed (behind (widths_in items) (behind_one n)) other) k))
after-freed_case signals choice n subject shape items other wild m is =
    ap (λ s. after signals choice s m)
    (cond-false (is_constant subject.node)
    (Case' subject shape (freed_in n items) _ (more_of-Stmt (freed (behind (widths_in items) n) other) end_of-Stmt) wild)
    (both (keep n (kept_of subject))
    (Case' (subject_of subject n.signal) shape (freed_in (behind_one n) items)
    _ (more_of-Stmt (freed (behind (widths_in items) (behind_one n)) other) end_of-Stmt) wild)) is)

-- where it is one
pub after-constant_if : (signals : List Signal) (choice : Choice) (n : Next) (test : Typed) (on_true on_false : Stmt) (m : Updates) → is_constant test.node ≡ true
    → after signals choice (freed n (If' test _ (more_of-Stmt on_true end_of-Stmt) _ (more_of-Stmt on_false end_of-Stmt))) m
    ≡ (if is_true (value signals m.now test) then after signals choice (freed n on_true) m else after signals choice (freed (behind (widths on_true) n) on_false) m)
after-constant_if signals choice n test on_true on_false m is =
    ap (λ s. after signals choice s m)
    (cond-true (is_constant test.node)
    (If' test _ (more_of-Stmt (freed n on_true) end_of-Stmt) _ (more_of-Stmt (freed (behind (widths on_true) n) on_false) end_of-Stmt))
    (both (keep n (truth test))
    (If' (whole 1 false n.signal) _ (more_of-Stmt (freed (behind_one n) on_true) end_of-Stmt)
    _ (more_of-Stmt (freed (behind (widths on_true) (behind_one n)) on_false) end_of-Stmt))) is)

pub after-constant_case : (signals : List Signal) (choice : Choice) (n : Next) (subject : Typed) (shape : _) (items : _) (other : Stmt) (wild : Bool) (m : Updates)
    → is_constant subject.node ≡ true
    → after signals choice (freed n (Case' subject shape items _ (more_of-Stmt other end_of-Stmt) wild)) m
    ≡ after_case signals choice (value signals m.now subject) (freed_in n items) m (after signals choice (freed (behind (widths_in items) n) other) m)
after-constant_case signals choice n subject shape items other wild m is =
    ap (λ s. after signals choice s m)
    (cond-true (is_constant subject.node)
    (Case' subject shape (freed_in n items) _ (more_of-Stmt (freed (behind (widths_in items) n) other) end_of-Stmt) wild)
    (both (keep n (kept_of subject))
    (Case' (subject_of subject n.signal) shape (freed_in (behind_one n) items)
    _ (more_of-Stmt (freed (behind (widths_in items) (behind_one n)) other) end_of-Stmt) wild)) is)

-- ---- what is proved of a statement, of statements in order, and of case items
abbrev pub Follows : List Signal → List Signal → Choice → Stmt → Type 0
Follows signals hidden choice statement =
    (n : Next) (m m' : Updates) → Room signals hidden choice.frees n (widths statement) → Alike (length signals) m' m
    → Alike (length signals) (after (signals ++ hidden) choice (freed n statement) m') (after signals choice statement m)

abbrev pub FollowIn : {shape : _} → List Signal → List Signal → Choice → Row_of-CaseItem shape → Type 0
FollowIn signals hidden choice items =
    (subject : ℕ) (n : Next) (m m' other other' : Updates) → Room signals hidden choice.frees n (widths_in items) → Alike (length signals) m' m
    → Alike (length signals) other' other
    → Alike (length signals) (after_case (signals ++ hidden) choice subject (freed_in n items) m' other') (after_case signals choice subject items m other)

arms-alike : (count : ℕ) (t u : Bool) → t ≡ u → (a a' b b' : Updates) → Alike count a' a → Alike count b' b
    → Alike count (if t then a' else b') (if u then a else b)
arms-alike count true true same a a' b b' one other = one
arms-alike count true false same a a' b b' one other = cc
arms-alike count false true same a a' b b' one other = cc
arms-alike count false false same a a' b b' one other = other

alike-at : (count : ℕ) (m m' n : Updates) → m' ≡ m → Alike count m n → Alike count m' n
alike-at count m m' n same agree = rw same agree

matches-alike : (signals hidden : List Signal) (V W : Valuation) (subject width : ℕ) (labels : List Label) → list_all (label_fits signals width) labels ≡ true
    → AgreeBelow (length signals) V W → list_any (matches (signals ++ hidden) V subject) labels ≡ list_any (matches signals W subject) labels
matches-alike signals hidden V W subject width [] fits agree = refl
matches-alike signals hidden V W subject width (label ∷ labels) fits agree =
    let fit = and_parts (label_fits signals width label) (list_all (label_fits signals width) labels) fits in
    let front = and_parts (typed_fits signals label.value && label.value.width == width) (width_of label.wild == width) fit.0 in
    let own : typed_fits signals label.value ≡ true = (and_parts (typed_fits signals label.value) (label.value.width == width) front.0).0 in
    ap (λ v. bit_or subject (value_of label.wild) == bit_or v (value_of label.wild) || list_any (matches (signals ++ hidden) V subject) labels)
    (value-alike signals hidden V W label.value own agree)
    ∙ ap (λ x. matches signals W subject label || x) (matches-alike signals hidden V W subject width labels fit.1 agree)

follows-if : (signals hidden : List Signal) (choice : Choice) (test : Typed) (on_true on_false : Stmt) → typed_fits signals test ≡ true
    → Follows signals hidden choice on_true → Follows signals hidden choice on_false
    → Follows signals hidden choice (If' test _ (more_of-Stmt on_true end_of-Stmt) _ (more_of-Stmt on_false end_of-Stmt))
follows-if signals hidden choice test on_true on_false fits first second n m m' room agree = at (is_constant test.node) refl
  where
    at : (t : Bool) → is_constant test.node ≡ t
        → Alike (length signals) (after (signals ++ hidden) choice (freed n (If' test _ (more_of-Stmt on_true end_of-Stmt) _ (more_of-Stmt on_false end_of-Stmt))) m')
        (after signals choice (If' test _ (more_of-Stmt on_true end_of-Stmt) _ (more_of-Stmt on_false end_of-Stmt)) m)
    at true is =
        let here = room-own signals hidden choice.frees n test 1 (widths on_true ++ widths on_false) true is room in
        alike-at (length signals)
        (if is_true (value (signals ++ hidden) m'.now test) then after (signals ++ hidden) choice (freed n on_true) m' else after (signals ++ hidden) choice (freed (behind (widths on_true) n) on_false) m')
        (after (signals ++ hidden) choice (freed n (If' test _ (more_of-Stmt on_true end_of-Stmt) _ (more_of-Stmt on_false end_of-Stmt))) m')
        (after signals choice (If' test _ (more_of-Stmt on_true end_of-Stmt) _ (more_of-Stmt on_false end_of-Stmt)) m)
        (after-constant_if (signals ++ hidden) choice n test on_true on_false m' is)
        (arms-alike (length signals) (is_true (value (signals ++ hidden) m'.now test)) (is_true (value signals m.now test)) (ap is_true (value-alike signals hidden m'.now m.now test fits agree.now))
        (after signals choice on_true m) (after (signals ++ hidden) choice (freed n on_true) m')
        (after signals choice on_false m) (after (signals ++ hidden) choice (freed (behind (widths on_true) n) on_false) m')
        (first n m m' (room-left signals hidden choice.frees n (widths on_true) (widths on_false) here) agree)
        (second (behind (widths on_true) n) m m' (room-right signals hidden choice.frees n (widths on_true) (widths on_false) here) agree))
    at false is =
        let here = room-own signals hidden choice.frees n test 1 (widths on_true ++ widths on_false) false is room in
        let k : Updates = after (signals ++ hidden) choice (keep n (truth test)) m' in
        let inner : Next = behind_one n in
        let next : Room signals hidden choice.frees inner (widths on_true ++ widths on_false) = room-next signals hidden choice.frees n 1 (widths on_true ++ widths on_false) here in
        let wide : width_at (signals ++ hidden) n.signal ≡ 1 = room-wide signals hidden choice.frees n 1 (widths on_true ++ widths on_false) here in
        let still : Alike (length signals) k m = keep-alike (signals ++ hidden) choice n (truth test) (length signals) m m' room.behind agree in
        let same : is_true (value (signals ++ hidden) k.now (whole 1 false n.signal)) ≡ is_true (value signals m.now test) =
        same_arm (signals ++ hidden) choice n test m' wide (room.unfreed n.place (omega arith)) ∙ ap is_true (value-alike signals hidden m'.now m.now test fits agree.now) in
        alike-at (length signals)
        (if is_true (value (signals ++ hidden) k.now (whole 1 false n.signal)) then after (signals ++ hidden) choice (freed inner on_true) k else after (signals ++ hidden) choice (freed (behind (widths on_true) inner) on_false) k)
        (after (signals ++ hidden) choice (freed n (If' test _ (more_of-Stmt on_true end_of-Stmt) _ (more_of-Stmt on_false end_of-Stmt))) m')
        (after signals choice (If' test _ (more_of-Stmt on_true end_of-Stmt) _ (more_of-Stmt on_false end_of-Stmt)) m)
        (after-freed_if (signals ++ hidden) choice n test on_true on_false m' is)
        (arms-alike (length signals) (is_true (value (signals ++ hidden) k.now (whole 1 false n.signal))) (is_true (value signals m.now test)) same
        (after signals choice on_true m) (after (signals ++ hidden) choice (freed inner on_true) k)
        (after signals choice on_false m) (after (signals ++ hidden) choice (freed (behind (widths on_true) inner) on_false) k)
        (first inner m k (room-left signals hidden choice.frees inner (widths on_true) (widths on_false) next) still)
        (second (behind (widths on_true) inner) m k (room-right signals hidden choice.frees inner (widths on_true) (widths on_false) next) still))

follows-case : (signals hidden : List Signal) (choice : Choice) (subject : Typed) (shape : _) (items : _) (other : Stmt) (wild : Bool) → typed_fits signals subject ≡ true
    → FollowIn signals hidden choice items → Follows signals hidden choice other
    → Follows signals hidden choice (Case' subject shape items _ (more_of-Stmt other end_of-Stmt) wild)
follows-case signals hidden choice subject shape items other wild fits inside otherwise n m m' room agree = at (is_constant subject.node) refl
  where
    at : (t : Bool) → is_constant subject.node ≡ t
        → Alike (length signals) (after (signals ++ hidden) choice (freed n (Case' subject shape items _ (more_of-Stmt other end_of-Stmt) wild)) m')
        (after signals choice (Case' subject shape items _ (more_of-Stmt other end_of-Stmt) wild) m)
    at true is =
        let here = room-own signals hidden choice.frees n subject (kept_of subject).width (widths_in items ++ widths other) true is room in
        let rest : Updates = after (signals ++ hidden) choice (freed (behind (widths_in items) n) other) m' in
        alike-at (length signals)
        (after_case (signals ++ hidden) choice (value signals m.now subject) (freed_in n items) m' rest)
        (after (signals ++ hidden) choice (freed n (Case' subject shape items _ (more_of-Stmt other end_of-Stmt) wild)) m')
        (after signals choice (Case' subject shape items _ (more_of-Stmt other end_of-Stmt) wild) m)
        (after-constant_case (signals ++ hidden) choice n subject shape items other wild m' is
        ∙ ap (λ v. after_case (signals ++ hidden) choice v (freed_in n items) m' rest) (value-alike signals hidden m'.now m.now subject fits agree.now))
        (inside (value signals m.now subject) n m m' (after signals choice other m) rest
        (room-left signals hidden choice.frees n (widths_in items) (widths other) here) agree
        (otherwise (behind (widths_in items) n) m m' (room-right signals hidden choice.frees n (widths_in items) (widths other) here) agree))
    at false is =
        let here = room-own signals hidden choice.frees n subject (kept_of subject).width (widths_in items ++ widths other) false is room in
        let k : Updates = after (signals ++ hidden) choice (keep n (kept_of subject)) m' in
        let inner : Next = behind_one n in
        let next : Room signals hidden choice.frees inner (widths_in items ++ widths other) = room-next signals hidden choice.frees n (kept_of subject).width (widths_in items ++ widths other) here in
        let wide : width_at (signals ++ hidden) n.signal ≡ (kept_of subject).width = room-wide signals hidden choice.frees n (kept_of subject).width (widths_in items ++ widths other) here in
        let still : Alike (length signals) k m = keep-alike (signals ++ hidden) choice n (kept_of subject) (length signals) m m' room.behind agree in
        let rest : Updates = after (signals ++ hidden) choice (freed (behind (widths_in items) inner) other) k in
        alike-at (length signals)
        (after_case (signals ++ hidden) choice (value signals m.now subject) (freed_in inner items) k rest)
        (after (signals ++ hidden) choice (freed n (Case' subject shape items _ (more_of-Stmt other end_of-Stmt) wild)) m')
        (after signals choice (Case' subject shape items _ (more_of-Stmt other end_of-Stmt) wild) m)
        (after-freed_case (signals ++ hidden) choice n subject shape items other wild m' is
        ∙ ap (λ v. after_case (signals ++ hidden) choice v (freed_in inner items) k rest)
        (same_subject signals hidden choice n subject m m' fits wide (room.unfreed n.place (omega arith)) agree.now))
        (inside (value signals m.now subject) inner m k (after signals choice other m) rest
        (room-left signals hidden choice.frees inner (widths_in items) (widths other) next) still
        (otherwise (behind (widths_in items) inner) m k (room-right signals hidden choice.frees inner (widths_in items) (widths other) next) still))

follows-set : (signals hidden : List Signal) (places : List Place) (choice : Choice) (place : ℕ) (target : Target) (e : Typed) (later : Bool)
    → statement_fits signals places (Set place target e later) ≡ true → Follows signals hidden choice (Set place target e later)
follows-set signals hidden places choice place target e later fits n m m' room agree =
    let fit = and_parts (assignment_fits signals target.parts e) (place_fits places (parts_width signals target.parts) place) fits in
    let front = and_parts (list_all (part_fits signals) target.parts && is_width (parts_width signals target.parts) && typed_fits signals e) (nat_le (parts_width signals target.parts) e.width) fit.0 in
    let parts = and_parts (list_all (part_fits signals) target.parts && is_width (parts_width signals target.parts)) (typed_fits signals e) front.0 in
    let own : list_all (part_fits signals) target.parts ≡ true = (and_parts (list_all (part_fits signals) target.parts) (is_width (parts_width signals target.parts)) parts.0).0 in
    alike-at (length signals)
    (after_set (signals ++ hidden) target.parts (bit (assigned choice place (value signals m.now e))) later m')
    (after_set (signals ++ hidden) target.parts (bit (assigned choice place (value (signals ++ hidden) m'.now e))) later m')
    (after_set signals target.parts (bit (assigned choice place (value signals m.now e))) later m)
    (ap (λ v. after_set (signals ++ hidden) target.parts (bit (assigned choice place v)) later m') (value-alike signals hidden m'.now m.now e parts.1 agree.now))
    (after_set-alike signals hidden target.parts (bit (assigned choice place (value signals m.now e))) later m' m own agree)

mutual
  pub after-follows : (signals hidden : List Signal) (places : List Place) (choice : Choice) (statement : Stmt)
      → statement_fits signals places statement ≡ true → Follows signals hidden choice statement
  after-follows signals hidden places choice Nothing fits n m m' room agree = agree
  after-follows signals hidden places choice (Block' _ statements) fits n m m' room agree = after_all-follows signals hidden places choice statements fits n m m' room agree
  after-follows signals hidden places choice (If' test _ (more_of-Stmt on_true end_of-Stmt) _ (more_of-Stmt on_false end_of-Stmt)) fits n m m' room agree =
      let fit = and_parts (typed_fits signals test && statement_fits signals places on_true) (statement_fits signals places on_false) fits in
      let front = and_parts (typed_fits signals test) (statement_fits signals places on_true) fit.0 in
      follows-if signals hidden choice test on_true on_false front.0
      (after-follows signals hidden places choice on_true front.1) (after-follows signals hidden places choice on_false fit.1) n m m' room agree
  after-follows signals hidden places choice (Case' subject shape items _ (more_of-Stmt other end_of-Stmt) wild) fits n m m' room agree =
      let fit = and_parts (typed_fits signals subject && items_fit signals places subject.width items) (statement_fits signals places other) fits in
      let front = and_parts (typed_fits signals subject) (items_fit signals places subject.width items) fit.0 in
      follows-case signals hidden choice subject shape items other wild front.0
      (after_case-follows signals hidden places choice subject.width items front.1) (after-follows signals hidden places choice other fit.1) n m m' room agree
  after-follows signals hidden places choice (Set place target e later) fits n m m' room agree = follows-set signals hidden places choice place target e later fits n m m' room agree

  pub after_all-follows : {shape : _} (signals hidden : List Signal) (places : List Place) (choice : Choice) (statements : Row_of-Stmt shape)
      → statements_fit signals places statements ≡ true
      → (n : Next) (m m' : Updates) → Room signals hidden choice.frees n (widths_of statements) → Alike (length signals) m' m
      → Alike (length signals) (after_all (signals ++ hidden) choice (freed_all n statements) m') (after_all signals choice statements m)
  after_all-follows signals hidden places choice end_of-Stmt fits n m m' room agree = agree
  after_all-follows signals hidden places choice (more_of-Stmt statement rest) fits n m m' room agree =
      let fit = and_parts (statement_fits signals places statement) (statements_fit signals places rest) fits in
      after_all-follows signals hidden places choice rest fit.1 (behind (widths statement) n)
      (after signals choice statement m) (after (signals ++ hidden) choice (freed n statement) m')
      (room-right signals hidden choice.frees n (widths statement) (widths_of rest) room)
      (after-follows signals hidden places choice statement fit.0 n m m' (room-left signals hidden choice.frees n (widths statement) (widths_of rest) room) agree)

  pub after_case-follows : {shape : _} (signals hidden : List Signal) (places : List Place) (choice : Choice) (width : ℕ) (items : Row_of-CaseItem shape)
      → items_fit signals places width items ≡ true → FollowIn signals hidden choice items
  after_case-follows signals hidden places choice width end_of-CaseItem fits subject n m m' other other' room agree at_other = at_other
  after_case-follows signals hidden places choice width (more_of-CaseItem labels body rest) fits subject n m m' other other' room agree at_other =
      let fit = and_parts (list_all (label_fits signals width) labels && statement_fits signals places body) (items_fit signals places width rest) fits in
      let front = and_parts (list_all (label_fits signals width) labels) (statement_fits signals places body) fit.0 in
      arms-alike (length signals) (list_any (matches (signals ++ hidden) m'.now subject) labels) (list_any (matches signals m.now subject) labels)
      (matches-alike signals hidden m'.now m.now subject width labels front.0 agree.now)
      (after signals choice body m) (after (signals ++ hidden) choice (freed n body) m')
      (after_case signals choice subject rest m other) (after_case (signals ++ hidden) choice subject (freed_in (behind (widths body) n) rest) m' other')
      (after-follows signals hidden places choice body front.1 n m m' (room-left signals hidden choice.frees n (widths body) (widths_in rest) room) agree)
      (after_case-follows signals hidden places choice width rest fit.1 subject (behind (widths body) n) m m' other other'
      (room-right signals hidden choice.frees n (widths body) (widths_in rest) room) agree at_other)

-- an `if` or a `case`
pub after-goes : (signals : List Signal) (choice : Choice) (n : Next) (m : Updates) (statement : Stmt) → GoesByItsNet signals choice n m statement
after-goes signals choice n m Nothing = tt
after-goes signals choice n m (Block' _ _) = tt
after-goes signals choice n m (If' test _ (more_of-Stmt on_true end_of-Stmt) _ (more_of-Stmt on_false end_of-Stmt)) =
    λ is. after-freed_if signals choice n test on_true on_false m is
after-goes signals choice n m (Case' subject shape items _ (more_of-Stmt other end_of-Stmt) wild) =
    λ is. after-freed_case signals choice n subject shape items other wild m is
after-goes signals choice n m (Set _ _ _ _) = tt
