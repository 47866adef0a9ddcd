-- The level that the changes of one moment leave.
use Rattle.std.proofs.Common.{◌≡◌, ◌≢◌, ℕ, zero, suc, arith, ◌+◌, ◌≤◌, ◌<◌, ◌^◌, Bool, true, false, ◌&&◌, Option, Some, None, List, [], ◌∷◌, ◌++◌, length, refl, ◌∙◌, ap}
use Rattle.std.specs.Prelude.{fold, slice_get}
use Rattle.std.proofs.lemmas.Bool.{cond-true, cond-false, and_from}
use Rattle.std.proofs.lemmas.List.Sums.{fold-append}
use Rattle.std.proofs.lemmas.Option.{slice_get_within}
use Rattle.loc_base.proofs.ShelfBools.{and-false}
use Rattle.loc_base.proofs.ShelfOptions.{Some-same}
use Rattle.vcd_words.specs.declared.level.Level.{Level}
use Rattle.vcd_words.specs.Codes.{code_of}
use Rattle.vcd_reading.specs.Commands.{same_bytes}
use Rattle.vcd_reading.specs.Events.{Event, level_by}
use Rattle.vcd_reading.proofs.ByteLaws.{same_self}
use Rattle.vcd_waves.specs.declared.variable.Variable.{Variable}
use Rattle.vcd_waves.specs.declared.variable.Kind.{Kind}
use Rattle.vcd_waves.specs.Lines.{Shown}
use Rattle.vcd_waves.proofs.WordForms.{codes_differ}
use Rattle.vcd_waves.proofs.ChangeEvents.{shown_level, shown_events, change_events}

-- a test of times
abbrev pub Test : Type 0
Test = Option ℕ → Bool

-- the level of a code behind some changes
abbrev pub behind : Test → List ℕ → Level → List Event → Level
behind test code level events = fold (level_by test code) level events

-- what is shown takes the place of a level
abbrev pub shown_over : Level → Option Shown → Level
shown_over level None = level
shown_over level (Some s) = shown_level s

-- ---- one change
other_code : (test : Test) (time : Option ℕ) (level : Level) (n m : ℕ) (shown : Option Shown) → n < 2 ^ 64
    → m < 2 ^ 64 → n ≢ m
    → behind test (code_of m) level (shown_events time n shown) ≡ level
other_code test time level n m None small less apart = refl
other_code test time level n m (Some s) small less apart =
    cond-false _ _ _ (ap (λ b. b && test time) (codes_differ n m small less apart))

other_time : (test : Test) (time : Option ℕ) (code : List ℕ) (level : Level) (n : ℕ) (shown : Option Shown)
    → test time ≡ false
    → behind test code level (shown_events time n shown) ≡ level
other_time test time code level n None fails = refl
other_time test time code level n (Some s) fails =
    cond-false _ _ _ (ap (λ b. same_bytes (code_of n) code && b) fails ∙ and-false (same_bytes (code_of n) code))

same_code : (test : Test) (time : Option ℕ) (level : Level) (n : ℕ) (shown : Option Shown) → test time ≡ true
    → behind test (code_of n) level (shown_events time n shown) ≡ shown_over level shown
same_code test time level n None passes = refl
same_code test time level n (Some s) passes = cond-true _ _ _ (and_from _ _ (same_self (code_of n)) passes)

-- ---- all changes of a moment
joined : (test : Test) (code : List ℕ) (level next : Level) (first others : List Event)
    → behind test code level first ≡ next
    → behind test code level (first ++ others) ≡ behind test code next others
joined test code level next first others is =
    fold-append (level_by test code) level first others ∙ ap (λ l. behind test code l others) is

-- changes of a moment that does not pass
pub no_time : (test : Test) (time : Option ℕ) (code : List ℕ) (level : Level) (shown : Kind → ℕ → Option Shown)
    (n : ℕ) (vs : List Variable)
    → test time ≡ false → behind test code level (change_events time shown n vs) ≡ level
no_time test time code level shown n [] fails = refl
no_time test time code level shown n (v ∷ vs) fails =
    joined test code level level (shown_events time n (shown v.kind v.place)) (change_events time shown (n + 1) vs)
    (other_time test time code level n (shown v.kind v.place) fails)
    ∙ no_time test time code level shown (n + 1) vs fails

-- changes of later variables
later : (test : Test) (time : Option ℕ) (level : Level) (shown : Kind → ℕ → Option Shown) (n m : ℕ) (vs : List Variable)
    → m < n → n + length vs ≤ 2 ^ 64 → behind test (code_of m) level (change_events time shown n vs) ≡ level
later test time level shown n m [] below few = refl
later test time level shown n m (v ∷ vs) below few =
    joined test (code_of m) level level (shown_events time n (shown v.kind v.place))
    (change_events time shown (n + 1) vs)
    (other_code test time level n m (shown v.kind v.place) (omega (arith, few)) (omega (arith, below, few))
    (λ same. absurd (omega (arith, below, same))))
    ∙ later test time level shown (n + 1) m vs (omega (arith, below)) (omega (arith, few))

-- the change of the variable of a number
pub at_variable : (test : Test) (time : Option ℕ) (level : Level) (shown : Kind → ℕ → Option Shown) (n k : ℕ)
    (vs : List Variable) (v : Variable)
    → test time ≡ true → n + length vs ≤ 2 ^ 64 → slice_get vs k ≡ Some v
    → behind test (code_of (n + k)) level (change_events time shown n vs) ≡ shown_over level (shown v.kind v.place)
at_variable test time level shown n k [] v passes few at = cc
at_variable test time level shown n zero (x ∷ vs) v passes few at =
    let none : n + 0 ≡ n = omega arith in
    ap (λ m. behind test (code_of m) level (change_events time shown n (x ∷ vs))) none
    ∙ joined test (code_of n) level (shown_over level (shown x.kind x.place))
    (shown_events time n (shown x.kind x.place)) (change_events time shown (n + 1) vs)
    (same_code test time level n (shown x.kind x.place) passes)
    ∙ later test time (shown_over level (shown x.kind x.place)) shown (n + 1) n vs (omega arith) (omega (arith, few))
    ∙ ap (λ (y : Variable). shown_over level (shown y.kind y.place)) (Some-same at)
at_variable test time level shown n (suc k) (x ∷ vs) v passes few at =
    let more : n + suc k ≡ n + 1 + k = omega arith in
    let within : k < length vs = slice_get_within vs k v at in
    ap (λ m. behind test (code_of m) level (change_events time shown n (x ∷ vs))) more
    ∙ joined test (code_of (n + 1 + k)) level level (shown_events time n (shown x.kind x.place))
    (change_events time shown (n + 1) vs)
    (other_code test time level n (n + 1 + k) (shown x.kind x.place) (omega (arith, few))
    (omega (arith, few, within)) (λ same. absurd (omega (arith, same))))
    ∙ at_variable test time level shown (n + 1) k vs v passes (omega (arith, few)) at
