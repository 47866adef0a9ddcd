-- A piece behind the header is taken in as its step says.
use Rattle.std.proofs.Common.{◌≡◌, ℕ, ◌-◌, ◌<◌, ◌≤◌, ◌==◌, ◌||◌, Bool, true, false, not, if◌then◌else◌, List, [], ◌∷◌, length, drop, refl, sym, ◌∙◌, ap, subst, arith, Option, Some, None, Result, Ok, Err}
use Rattle.std.specs.Option.{option_map}
use Rattle.std.proofs.lemmas.List.{length-take, length-drop}
use Rattle.std.specs.Result.{IsErrAnd}
use Rattle.vcd_words.specs.declared.level.Level.{Level}
use Rattle.vcd_words.specs.Words.{Placed, words_left, placed}
use Rattle.vcd_words.specs.Levels.{level_in, is_level_digit}
use Rattle.vcd_words.specs.Times.{time_in}
use Rattle.vcd_reading.specs.declared.commands.Command.{Command}
use Rattle.vcd_reading.specs.declared.commands.Command.TheVariants as command
use Rattle.vcd_reading.specs.declared.kinds.Kind.{Kind}
use Rattle.vcd_reading.specs.declared.kinds.Kind.TheVariants.{Time, Scalar, Vector, Real, Text, Mark, Section}
use Rattle.vcd_reading.specs.declared.error.VcdErr.{VcdErr}
use Rattle.vcd_traces.specs.declared.reader.Reading.{Reading}
use Rattle.vcd_traces.specs.declared.reader.Plan.{Plan}
use Rattle.vcd_reading.specs.Commands.{named_command}
use Rattle.vcd_reading.specs.Reals.{is_real}
use Rattle.vcd_reading.specs.Pieces.{mark_of, letter_kind, kind_of, behind_code, behind_end}
use Rattle.vcd_reading.specs.Scopes.{Sought, is_declared, is_of_port, is_too_long}
use Rattle.vcd_reading.specs.Changes.{Past, is_later, is_earlier, at_time, timed, stamps_of, changed, passed_over, with_event}
use Rattle.vcd_traces.specs.Samples.{Watches}
use Rattle.vcd_traces.specs.Levels.{Does}
use Rattle.vcd_traces.specs.Table.{cell_codes}
use Rattle.vcd_reading.specs.Reading.{Step, stops, step, step_of, step_done, step_behind}
use Rattle.vcd_reading.specs.Outcomes.{IsAt}
use Rattle.vcd_traces.specs.Plan.{Holds}
use Rattle.vcd_traces.specs.Going.{Goes, Holding}
use Rattle.vcd_reading.proofs.ReadSteps.{at_map}
use Rattle.vcd_traces.proofs.ChangeLaws.{does_by}

-- a deed leaves the header as it is
abbrev pub Stays : Past → Result Past ℕ → Type 0
Stays start (Ok next) = next.header ≡ start.header
Stays start (Err at) = Unit {0}

stays_if : (start : Past) (test : Bool) (one other : Result Past ℕ) → Stays start one → Stays start other → Stays start (if test then one else other)
stays_if start true one other first second = first
stays_if start false one other first second = second

same_if : (start : Past) (test : Bool) (one other : Past) → one.header ≡ start.header → other.header ≡ start.header
    → (let next : Past = if test then one else other in next.header ≡ start.header)
same_if start true one other first second = first
same_if start false one other first second = second

pub stays_timed : (past : Past) (time at : ℕ) → Stays past (timed past time at)
stays_timed past time at =
    let later : Past = record past { time = Some time; ended = stamps_of past } in
    stays_if past (is_earlier past.time time) (Err at) (Ok (at_time past time)) tt (same_if past (is_later past.time time) later past refl refl)

pub stays_changed : (sought : Sought) (past : Past) (level : Level) (digits at : ℕ) (code : Placed) → Stays past (changed sought past level digits at code)
stays_changed sought past level digits at code =
    let deed : Result Past ℕ = if is_too_long past.header sought code.word digits then Err at else Ok (with_event past code.word level) in
    stays_if past (not (is_declared past.header code.word)) (Err code.at) deed tt
    (stays_if past (is_too_long past.header sought code.word digits) (Err at) (Ok (with_event past code.word level)) tt refl)

pub stays_passed : (sought : Sought) (past : Past) (at : ℕ) (code : Placed) → Stays past (passed_over sought past at code)
stays_passed sought past at code =
    let deed : Result Past ℕ = if is_of_port past.header sought code.word then Err at else Ok past in
    stays_if past (not (is_declared past.header code.word)) (Err code.at) deed tt (stays_if past (is_of_port past.header sought code.word) (Err at) (Ok past) tt refl)

-- a deed is done
pub goes_done : (text : List ℕ) (w : Watches) (plan : Plan) (start : Past) (one other : Result Past ℕ) (reading : Reading) (at : ℕ) → one ≡ other → Stays start one
    → Does other (Holds w (cell_codes plan.table)) (Ok tt) reading → Goes text (step_done one (words_left text at)) (Holding w plan start reading) (Ok at)
goes_done text w plan start one other reading at same stays fact =
    done text w plan start one reading at stays (does_by one other (Holds w (cell_codes plan.table)) (Ok tt) reading same fact)
  where
    done : (text : List ℕ) (w : Watches) (plan : Plan) (start : Past) (deed : Result Past ℕ) (reading : Reading) (at : ℕ) → Stays start deed
        → Does deed (Holds w (cell_codes plan.table)) (Ok tt) reading → Goes text (step_done deed (words_left text at)) (Holding w plan start reading) (Ok at)
    done text w plan start (Ok next) reading at stays fact = (next, refl, (stays, fact))
    done text w plan start (Err place) reading at stays fact = absurd fact

-- a deed is refused
pub goes_refused : (text : List ℕ) (w : Watches) (plan : Plan) (start : Past) (one other : Result Past ℕ) (reading : Reading) (rest : List Placed) (fault : VcdErr)
    (r : Result ℕ VcdErr) → one ≡ other → Does other (Holds w (cell_codes plan.table)) (Err fault) reading → IsErrAnd r (λ y. y ≡ fault)
    → Goes text (step_done one rest) (Holding w plan start reading) r
goes_refused text w plan start one other reading rest fault (Ok next) same fact passed = absurd passed
goes_refused text w plan start one other reading rest fault (Err y) same fact passed =
    let P : VcdErr → Type 0 = IsAt (λ at. step_done one rest ≡ stops at) in
    subst P (sym passed) (refused one fault (does_by one other (Holds w (cell_codes plan.table)) (Err fault) reading same fact))
  where
    refused : (deed : Result Past ℕ) (fault : VcdErr) → Does deed (Holds w (cell_codes plan.table)) (Err fault) reading → IsAt (λ at. step_done deed rest ≡ stops at) fault
    refused (Ok next) fault fact = at_map (λ at. ⊥) (λ at. step_done (Ok next) rest ≡ stops at) fault (λ at none. absurd none) fact
    refused (Err place) fault fact =
        at_map (λ at. at ≡ place) (λ at. step_done (Err place) rest ≡ stops at) fault (λ at same. ap stops (sym same)) fact

-- the code of a value is the next word
pub goes_code : (text : List ℕ) (words rest : List Placed) (code : Placed) (deed : List Placed → Result Past ℕ) (holds : Past → Type 0) (r : Result ℕ VcdErr)
    → words ≡ code ∷ rest → Goes text (step_done (deed (code ∷ rest)) rest) holds r
    → Goes text (step_behind (length text) (behind_code words) (deed words)) holds r
goes_code text words rest code deed holds r are fact =
    let P : List Placed → Type 0 = λ l. Goes text (step_behind (length text) (behind_code l) (deed l)) holds r in
    subst P (sym are) fact

pub open_code : (end : ℕ) (words : List Placed) (deed : Result Past ℕ) → words ≡ [] → step_behind end (behind_code words) deed ≡ stops end
open_code end words deed none = ap (λ l. step_behind end (behind_code l) deed) none

-- the code and the digits of a change
pub changed_by : (sought : Sought) (past : Past) (level : Level) (at code_at : ℕ) (digits other_digits : ℕ) (word other_word : List ℕ) → digits ≡ other_digits
    → word ≡ other_word
    → changed sought past level digits at (record { at = code_at; word = word }) ≡ changed sought past level other_digits at (record { at = code_at; word = other_word })
changed_by sought past level at code_at digits other_digits word other_word same_digits same_word =
    ap (λ d. changed sought past level d at (record { at = code_at; word = word })) same_digits
    ∙ ap (λ q. changed sought past level other_digits at (record { at = code_at; word = q })) same_word

pub passed_by : (sought : Sought) (past : Past) (at code_at : ℕ) (word other_word : List ℕ) → word ≡ other_word
    → passed_over sought past at (record { at = code_at; word = word }) ≡ passed_over sought past at (record { at = code_at; word = other_word })
passed_by sought past at code_at word other_word same_word = ap (λ q. passed_over sought past at (record { at = code_at; word = q })) same_word

pub digits_of : (text : List ℕ) (start stop : ℕ) → start < stop → stop ≤ length text → length (placed text start stop).word - 1 ≡ stop - start - 1
digits_of text start stop some inside =
    let cut = length-take (stop - start) (drop start text) in
    let front = length-drop start text in
    let size : length (placed text start stop).word ≡ stop - start = omega (arith, cut, front, some, inside) in
    ap (λ n. n - 1) size

-- behind the header only a comment is a section
abbrev IsLight : Option Kind → Type 0
IsLight None = Unit {0}
IsLight (Some (Section name)) = name ≡ command.Comment
IsLight (Some (Time time)) = Unit {0}
IsLight (Some (Scalar level)) = Unit {0}
IsLight (Some (Vector level)) = Unit {0}
IsLight (Some Real) = Unit {0}
IsLight (Some Text) = Unit {0}
IsLight (Some Mark) = Unit {0}

light_if : (test : Bool) (one other : Option Kind) → IsLight one → IsLight other → IsLight (if test then one else other)
light_if true one other first second = first
light_if false one other first second = second

light_time : (time : Option ℕ) → IsLight (option_map Time time)
light_time None = tt
light_time (Some time) = tt

light_scalar : (level : Option Level) → IsLight (option_map Scalar level)
light_scalar None = tt
light_scalar (Some level) = tt

light_vector : (level : Option Level) → IsLight (option_map Vector level)
light_vector None = tt
light_vector (Some level) = tt

light_mark : (name : Command) → IsLight (mark_of name)
light_mark command.End = tt
light_mark command.Dump = tt
light_mark command.Comment = refl
light_mark command.Scope = tt
light_mark command.Upscope = tt
light_mark command.Var = tt
light_mark command.EndDefinitions = tt
light_mark command.Other = tt

light_letter : (first : ℕ) (rest : List ℕ) → IsLight (letter_kind first rest)
light_letter first rest =
    let mark : Option Kind = if first == 36 then mark_of (named_command rest) else None in
    let text : Option Kind = if first == 115 then Some Text else mark in
    let number : Option Kind = if is_real rest then Some Real else None in
    let real : Option Kind = if first == 114 || first == 82 then number else text in
    light_if (first == 98 || first == 66) (option_map Vector (level_in rest)) real (light_vector (level_in rest))
    (light_if (first == 114 || first == 82) number text (light_if (is_real rest) (Some Real) None tt tt)
    (light_if (first == 115) (Some Text) mark tt (light_if (first == 36) (mark_of (named_command rest)) None (light_mark (named_command rest)) tt)))

light_change : (word : List ℕ) → IsLight (kind_of false word)
light_change [] = tt
light_change (first ∷ rest) =
    let digit : Option Kind = if is_level_digit first then option_map Scalar (level_in (first ∷ [])) else letter_kind first rest in
    light_if (first == 35) (option_map Time (time_in rest)) digit (light_time (time_in rest))
    (light_if (is_level_digit first) (option_map Scalar (level_in (first ∷ []))) (letter_kind first rest) (light_scalar (level_in (first ∷ []))) (light_letter first rest))

pub is_comment : (word : List ℕ) (name : Command) → kind_of false word ≡ Some (Section name) → name ≡ command.Comment
is_comment word name is = subst IsLight is (light_change word)

-- the step of a piece, by its kind
pub goes_kind : (sought : Sought) (text word : List ℕ) (past : Past) (first : Placed) (words : List Placed) (kind : Option Kind) (holds : Past → Type 0)
    (r : Result ℕ VcdErr) → past.header.ended ≡ true → word ≡ first.word → kind ≡ kind_of false word
    → Goes text (step_of sought (length text) past kind first words) holds r → Goes text (step sought (length text) past first words) holds r
goes_kind sought text word past first words kind holds r ended same is fact =
    let P : Option Kind → Type 0 = λ k. Goes text (step_of sought (length text) past k first words) holds r in
    let kinds : kind ≡ kind_of (not past.header.ended) first.word =
    is ∙ ap (kind_of false) same ∙ ap (λ b. kind_of (not b) first.word) (sym ended) in
    subst P kinds fact

-- a comment
pub goes_comment : (sought : Sought) (text : List ℕ) (past : Past) (first : Placed) (words : List Placed) (name : Command) (w : Watches) (plan : Plan)
    (reading : Reading) (r : Result ℕ VcdErr) → name ≡ command.Comment → Holding w plan past reading past
    → Goes text (step_behind (length text) (behind_end words) (Ok past)) (λ next. next ≡ past) r
    → Goes text (step_of sought (length text) past (Some (Section name)) first words) (Holding w plan past reading) r
goes_comment sought text past first words name w plan reading r is holding fact =
    let P : Command → Type 0 = λ c. Goes text (step_of sought (length text) past (Some (Section c)) first words) (Holding w plan past reading) r in
    subst P (sym is) (still (step_behind (length text) (behind_end words) (Ok past)) r fact)
  where
    still : (step : Step) (r : Result ℕ VcdErr) → Goes text step (λ next. next ≡ past) r → Goes text step (Holding w plan past reading) r
    still step (Ok next) fact = (fact.0, fact.1, (let P : Past → Type 0 = Holding w plan past reading in subst P (sym fact.2) holding))
    still step (Err fault) fact = fact
