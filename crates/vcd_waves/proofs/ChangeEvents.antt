-- The changes of a wave as events, and the lines that make them.
use Rattle.std.proofs.Common.{◌≡◌, ◌≢◌, ℕ, suc, arith, ◌+◌, ◌≤◌, ◌==◌, true, Option, Some, None, List, [], ◌∷◌, ◌++◌, refl, sym, ◌∙◌, subst, inl, inr, append_assoc}
use Rattle.std.specs.Prelude.{slice_get}
use Rattle.std.specs.List.{list_all}
use Rattle.std.proofs.lemmas.Bool.{cond-true, cond-false, cases_Bool, and_from}
use Rattle.std.proofs.lemmas.Bool.Decides.{nat_tests}
use Rattle.std.proofs.lemmas.List.{append-nil}
use Rattle.std.proofs.lemmas.List.Folds.{list_all-append}
use Rattle.loc_base.proofs.ShelfBools.{equal-true}
use Rattle.vcd_words.specs.declared.level.Level.{Level}
use Rattle.vcd_words.specs.Codes.{code_of}
use Rattle.vcd_words.specs.Levels.{digits_of, level_of, is_level_digit}
use Rattle.vcd_words.specs.Lines.{is_black}
use Rattle.vcd_words.specs.Lines.AreBlack.{no_word, one_more}
use Rattle.vcd_words.proofs.CodeLaws.{laws}
use Rattle.vcd_reading.specs.Events.{Event}
use Rattle.vcd_reading.specs.Header.{Header}
use Rattle.vcd_reading.specs.Scopes.{Sought}
use Rattle.vcd_reading.specs.Changes.{Past, with_event}
use Rattle.vcd_waves.specs.declared.variable.Variable.{Variable}
use Rattle.vcd_waves.specs.declared.variable.Kind.{Kind}
use Rattle.vcd_waves.specs.Lines.{Shown, change_line, shown_lines, change_lines}
use Rattle.vcd_waves.specs.Runs.{IsDeed, Runs}
use Rattle.vcd_waves.specs.Runs.Runs.{no_line, one_line}
use Rattle.vcd_waves.proofs.WordForms.{code_some, visible_word, all_from}
use Rattle.vcd_waves.proofs.RoundReading.{runs_join}
use Rattle.vcd_waves.proofs.ValueDeeds.{Takes, digits_right, bit_deed, word_deed}

-- ---- the events of changes
abbrev pub shown_level : Shown → Level
shown_level s = level_of (digits_of s.width s.value s.mask)

abbrev pub event_of : Option ℕ → ℕ → Shown → Event
event_of time n s = record { time = time; code = code_of n; level = shown_level s }

abbrev pub shown_events : Option ℕ → ℕ → Option Shown → List Event
shown_events time n None = []
shown_events time n (Some s) = event_of time n s ∷ []

abbrev pub change_events : Option ℕ → (Kind → ℕ → Option Shown) → ℕ → List Variable → List Event
change_events time shown n [] = []
change_events time shown n (v ∷ rest) = shown_events time n (shown v.kind v.place) ++ change_events time shown
    (n + 1) rest

abbrev pub with_events : Past → List Event → Past
with_events past events = record past { events = past.events ++ events }

-- ---- changes that can be written
pub record CanShow (sought : Sought) (h : Header) (n : ℕ) (s : Shown) : Type 0 where
  pub some : 1 ≤ s.width
  pub takes : Takes sought h (code_of n) s.width

abbrev pub MayShow : Sought → Header → ℕ → Option Shown → Type 0
MayShow sought h n None = Unit {0}
MayShow sought h n (Some s) = CanShow sought h n s

-- ---- the line of a change
black_digit : (byte : ℕ) → is_level_digit byte ≡ true → is_black byte ≡ true
black_digit byte is = grind (arith, nat_tests)

digits_black : (s : Shown) → list_all is_black (digits_of s.width s.value s.mask) ≡ true
digits_black s = all_from is_level_digit is_black black_digit (digits_of s.width s.value s.mask)
    (digits_right s.width s.value s.mask)

code_black : (n : ℕ) → list_all is_black (code_of n) ≡ true
code_black n = visible_word (code_of n) (laws.code_bytes n)

behind_some : (front : List ℕ) (word : List ℕ) → word ≢ [] → front ++ word ≢ []
behind_some [] word some = some
behind_some (byte ∷ front) word some = λ none. cc

-- a change of one bit, and a wider one
one_bit : (sought : Sought) (end : ℕ) (past : Past) (n : ℕ) (s : Shown) → past.header.ended ≡ true
    → CanShow sought past.header n s
    → s.width ≡ 1 → Runs sought end past (((digits_of s.width s.value s.mask ++ code_of n) ∷ []) ∷ [])
    (with_event past (code_of n) (shown_level s))
one_bit sought end past n s ended can is =
    let digits : List ℕ = digits_of s.width s.value s.mask in
    let P : ℕ → Type 0 = λ w. IsDeed sought end past (digits_of w s.value s.mask ++ code_of n) []
    (with_event past (code_of n) (level_of (digits_of w s.value s.mask))) in
    let Q : ℕ → Type 0 = Takes sought past.header (code_of n) in
    one_line
    (one_more (behind_some digits (code_of n) (code_some n))
    (list_all-append is_black digits (code_of n) ∙ and_from _ _ (digits_black s) (code_black n)) no_word)
    (subst P (sym is) (bit_deed sought end past s.value s.mask (code_of n) ended (subst Q is can.takes))) no_line

many_bits : (sought : Sought) (end : ℕ) (past : Past) (n : ℕ) (s : Shown) → past.header.ended ≡ true
    → CanShow sought past.header n s
    → Runs sought end past (((98 ∷ digits_of s.width s.value s.mask) ∷ code_of n ∷ []) ∷ [])
    (with_event past (code_of n) (shown_level s))
many_bits sought end past n s ended can =
    one_line
    (one_more (λ none. cc) (and_from _ _ refl (digits_black s)) (one_more (code_some n) (code_black n) no_word))
    (word_deed sought end past s.width s.value s.mask (code_of n) ended can.some can.takes) no_line

change_run : (sought : Sought) (end : ℕ) (past : Past) (n : ℕ) (s : Shown) → past.header.ended ≡ true
    → CanShow sought past.header n s
    → Runs sought end past (change_line n s ∷ []) (with_event past (code_of n) (shown_level s))
change_run sought end past n s ended can =
    let one : List (List ℕ) = (digits_of s.width s.value s.mask ++ code_of n) ∷ [] in
    let many : List (List ℕ) = (98 ∷ digits_of s.width s.value s.mask) ∷ code_of n ∷ [] in
    let P : List (List ℕ)
    → Type 0 = λ line. Runs sought end past (line ∷ []) (with_event past (code_of n) (shown_level s)) in
    elim (cases_Bool (s.width == 1)) [
      | inl is ↦ subst P (sym (cond-true (s.width == 1) one many is))
          (one_bit sought end past n s ended can (equal-true s.width 1 is))
      | inr wide ↦ subst P (sym (cond-false (s.width == 1) one many wide)) (many_bits sought end past n s ended can)
    ]

shown_run : (sought : Sought) (end : ℕ) (past : Past) (n : ℕ) (shown : Option Shown) → past.header.ended ≡ true
    → MayShow sought past.header n shown
    → Runs sought end past (shown_lines n shown) (with_events past (shown_events past.time n shown))
shown_run sought end past n None ended can =
    let P : List Event → Type 0 = λ l. Runs sought end past [] (record past { events = l }) in
    subst P (sym (append-nil past.events)) no_line
shown_run sought end past n (Some s) ended can = change_run sought end past n s ended can

-- all changes of a moment
pub changes_run : (sought : Sought) (end : ℕ) (past : Past) (shown : Kind → ℕ → Option Shown) (n : ℕ)
    (vs : List Variable)
    → past.header.ended ≡ true
    → ((k : ℕ) (v : Variable) → slice_get vs k ≡ Some v → MayShow sought past.header (n + k) (shown v.kind v.place))
    → Runs sought end past (change_lines shown n vs) (with_events past (change_events past.time shown n vs))
changes_run sought end past shown n [] ended can =
    let P : List Event → Type 0 = λ l. Runs sought end past [] (record past { events = l }) in
    subst P (sym (append-nil past.events)) no_line
changes_run sought end past shown n (v ∷ vs) ended can =
    let first : List Event = shown_events past.time n (shown v.kind v.place) in
    let others : List Event = change_events past.time shown (n + 1) vs in
    let mid : Past = with_events past first in
    let P : List Event → Type 0 = λ l. Runs sought end past (change_lines shown n (v ∷ vs))
    (record past { events = l }) in
    let M : ℕ → Type 0 = λ m. MayShow sought past.header m (shown v.kind v.place) in
    let none : n + 0 ≡ n = omega arith in
    subst P (append_assoc past.events first others)
    (runs_join sought end past (shown_lines n (shown v.kind v.place)) (change_lines shown (n + 1) vs) mid
    (with_events mid others)
    (shown_run sought end past n (shown v.kind v.place) ended (subst M none (can 0 v refl)))
    (changes_run sought end mid shown (n + 1) vs ended (λ k x at. next k x (can (suc k) x at))))
  where
    next : (k : ℕ) (x : Variable) → MayShow sought past.header (n + suc k) (shown x.kind x.place)
        → MayShow sought past.header (n + 1 + k) (shown x.kind x.place)
    next k x may =
        let N : ℕ → Type 0 = λ m. MayShow sought past.header m (shown x.kind x.place) in
        let more : n + suc k ≡ n + 1 + k = omega arith in
        subst N more may
