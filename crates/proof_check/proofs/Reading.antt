-- The words of a line and the step that they give.
use Rattle.std.proofs.Common.{◌≡◌, ℕ, ◌<◌, Bool, true, false, not, cond, ltb, Option, Some, None, List, [], ◌∷◌, ◌++◌, length, map, refl, ap, sym, ◌∙◌, subst, ⊎_elim, arith, All, append_assoc}
use Rattle.std.specs.Prelude.{decimal, IsTrue}
use Rattle.std.specs.Str.{bytes_eq}
use Rattle.std.specs.Option.{option_and_then}
use Rattle.std.specs.List.Sorted.{IsStrictlyIncreasing}
use Rattle.std.proofs.lemmas.Bool.{false≢true, and_parts, cases_Bool, cond-true, cond-false, ltb-true, not-true}
use Rattle.std.proofs.lemmas.List.{append-nil, map_push}
use Rattle.std.proofs.lemmas.List.Elements.{All-nil, All-push}
use Rattle.std.proofs.lemmas.Slice.Eq.{bytes_eq-Decides}
use Rattle.loc_base.proofs.ShelfOptions.{Some-same}
use Rattle.clause_base.specs.declared.literal.Lit.{Lit}
use Rattle.clause_base.specs.declared.log.Step.{Step}
use Rattle.clause_base.specs.declared.log.StepKind.{StepKind}
use Rattle.clause_base.specs.declared.log.StepKind.TheVariants.{Block, Learned, Derived}
use Rattle.clause_base.specs.Literal.{has_variable, has_distinct_variables}
use Rattle.proof_check.specs.Text.{IsUpTo, most_variable, most_number, literal_text, words_of, CanBeWritten}
use Rattle.proof_check.specs.LineWords.{LineWords, no_words, take_word, take_words, with_literal, with_number, with_colon, read_number, read_literal, fits, fits_kind, last_variable, step_of}
use Rattle.proof_check.proofs.Lexed.{read_number-some, read_literal-some}
use Rattle.proof_check.proofs.Seen.{distinct_more}
use Rattle.proof_check.proofs.Increasing.{variables, increasing_more}

abbrev colon : List ℕ
colon = 58 ∷ []

-- the words that the colon and the chain stand for
abbrev colon_words : Bool → List ℕ → List (List ℕ)
colon_words false chain = []
colon_words true chain = colon ∷ map decimal chain

-- a block's literals are negations of ascending variables, and it has no colon
abbrev Kept : StepKind → LineWords → Type 0
Kept Block w = All (λ l. l.negated ≡ true) w.literals × IsStrictlyIncreasing (variables w.literals) × (w.in_chain ≡ false)
Kept Learned w = Unit {0}
Kept Derived w = Unit {0}

-- the words so far are those of what they gave
record Taken (kind : StepKind) (seen : List (List ℕ)) (w : LineWords) : Type 0 where
  words : seen ≡ map literal_text w.literals ++ colon_words w.in_chain w.chain
  in_range : All (λ l. IsUpTo most_variable l.var) w.literals
  numbers : All (IsUpTo most_number) w.chain
  no_chain : w.in_chain ≡ false → w.chain ≡ []
  distinct : has_distinct_variables w.literals ≡ true
  kept : Kept kind w

kept_start : (kind : StepKind) → Kept kind no_words
kept_start Block = (All-nil (λ l. l.negated ≡ true), (λ k within. absurd (omega arith)), refl)
kept_start Learned = tt
kept_start Derived = tt

taken_start : (kind : StepKind) → Taken kind [] no_words
taken_start kind = record {
  words = refl;
  in_range = All-nil (λ l. IsUpTo most_variable l.var);
  numbers = All-nil (IsUpTo most_number);
  no_chain = λ e. refl;
  distinct = refl;
  kept = kept_start kind;
}

cond_some : {A : Type 0} (b : Bool) (x y : A) → cond b (Some x) None ≡ Some y → (b ≡ true) × (x ≡ y)
cond_some true x y h = (refl, cc)
cond_some false x y h = cc

-- a number of the chain
kept_number : (kind : StepKind) (w : LineWords) (n : ℕ) → Kept kind w → Kept kind (record w { chain = w.chain ++ n ∷ [] })
kept_number Block w n k = k
kept_number Learned w n k = tt
kept_number Derived w n k = tt

number_words : (literals : List Lit) (in_chain : Bool) (chain : List ℕ) (n : ℕ) (seen : List (List ℕ)) → in_chain ≡ true → seen ≡ map literal_text literals ++ colon_words in_chain chain
    → seen ++ decimal n ∷ [] ≡ map literal_text literals ++ colon_words in_chain (chain ++ n ∷ [])
number_words literals true chain n seen on e =
    ap (λ (ws : List (List ℕ)). ws ++ decimal n ∷ []) e ∙ append_assoc (map literal_text literals) (colon ∷ map decimal chain) (decimal n ∷ [])
    ∙ ap (λ (ws : List (List ℕ)). map literal_text literals ++ colon ∷ ws) (sym (map_push decimal chain n))
number_words literals false chain n seen on e = absurd (false≢true on)

numbers_taken : (kind : StepKind) (w : LineWords) (seen : List (List ℕ)) (word : List ℕ) (next : LineWords) (read : Option ℕ) → w.in_chain ≡ true → Taken kind seen w → read_number most_number word ≡ read → with_number w read ≡ Some next → Taken kind (seen ++ word ∷ []) next
numbers_taken kind w seen word next None on taken e h = cc
numbers_taken kind w seen word next (Some n) on taken e h =
    let found = read_number-some most_number n word e in
    let T : LineWords → Type 0 = λ v. Taken kind (seen ++ word ∷ []) v in
    subst T (Some-same h) (record {
      words = ap (λ (d : List ℕ). seen ++ d ∷ []) found.1 ∙ number_words w.literals w.in_chain w.chain n seen on taken.words;
      in_range = taken.in_range;
      numbers = All-push (IsUpTo most_number) w.chain n taken.numbers found.0;
      no_chain = λ off. absurd (false≢true (sym off ∙ on));
      distinct = taken.distinct;
      kept = kept_number kind w n taken.kept;
    })

-- the colon
colon_word : (literals : List Lit) (in_chain : Bool) (chain : List ℕ) (seen : List (List ℕ)) → in_chain ≡ false → chain ≡ [] → seen ≡ map literal_text literals ++ colon_words in_chain chain
    → seen ++ colon ∷ [] ≡ map literal_text literals ++ colon ∷ map decimal chain
colon_word literals true chain seen off none e = absurd (false≢true (sym off))
colon_word literals false chain seen off none e =
    ap (λ (ws : List (List ℕ)). ws ++ colon ∷ []) (e ∙ append-nil (map literal_text literals)) ∙ ap (λ (ns : List ℕ). map literal_text literals ++ colon ∷ map decimal ns) (sym none)

open_words : (w : LineWords) (seen : List (List ℕ)) (word : List ℕ) → w.in_chain ≡ false → word ≡ colon → (kind : StepKind) → Taken kind seen w → Kept kind (record w { in_chain = true }) → Taken kind (seen ++ word ∷ []) (record w { in_chain = true })
open_words w seen word off is kind taken kept_now = record {
  words = ap (λ (c : List ℕ). seen ++ c ∷ []) is ∙ colon_word w.literals w.in_chain w.chain seen off (taken.no_chain off) taken.words;
  in_range = taken.in_range;
  numbers = taken.numbers;
  no_chain = λ e. absurd (false≢true (sym e));
  distinct = taken.distinct;
  kept = kept_now;
}

colon_taken : (kind : StepKind) (w : LineWords) (seen : List (List ℕ)) (word : List ℕ) (next : LineWords) → w.in_chain ≡ false → word ≡ colon → Taken kind seen w → with_colon kind w ≡ Some next → Taken kind (seen ++ word ∷ []) next
colon_taken Block w seen word next off is taken h = cc
colon_taken Learned w seen word next off is taken h =
    subst (λ v. Taken Learned (seen ++ word ∷ []) v) (Some-same h) (open_words w seen word off is Learned taken tt)
colon_taken Derived w seen word next off is taken h =
    subst (λ v. Taken Derived (seen ++ word ∷ []) v) (Some-same h) (open_words w seen word off is Derived taken tt)

-- a literal
literal_word : (literals : List Lit) (in_chain : Bool) (chain : List ℕ) (l : Lit) (seen : List (List ℕ)) → in_chain ≡ false → seen ≡ map literal_text literals ++ colon_words in_chain chain
    → seen ++ literal_text l ∷ [] ≡ map literal_text (literals ++ l ∷ []) ++ colon_words in_chain chain
literal_word literals true chain l seen off e = absurd (false≢true (sym off))
literal_word literals false chain l seen off e =
    ap (λ (ws : List (List ℕ)). ws ++ literal_text l ∷ []) (e ∙ append-nil (map literal_text literals))
    ∙ sym (map_push literal_text literals l) ∙ sym (append-nil (map literal_text (literals ++ l ∷ [])))

kept_literal : (kind : StepKind) (w : LineWords) (l : Lit) → fits_kind kind w.literals l ≡ true → Kept kind w → Kept kind (record w { literals = w.literals ++ l ∷ [] })
kept_literal Block w l fits_it k =
    let parts = and_parts l.negated (ltb (last_variable w.literals) l.var) fits_it in
    (All-push (λ m. m.negated ≡ true) w.literals l k.0 parts.0, increasing_more w.literals l k.1 (ltb-true (last_variable w.literals) l.var parts.1), k.2)
kept_literal Learned w l fits_it k = tt
kept_literal Derived w l fits_it k = tt

literal_taken : (kind : StepKind) (w : LineWords) (seen : List (List ℕ)) (word : List ℕ) (next : LineWords) (read : Option Lit) → w.in_chain ≡ false → Taken kind seen w → read_literal word ≡ read → with_literal kind w read ≡ Some next → Taken kind (seen ++ word ∷ []) next
literal_taken kind w seen word next None off taken e h = cc
literal_taken kind w seen word next (Some l) off taken e h =
    let found = read_literal-some word l e in
    let parts = cond_some (fits kind w.literals l) (record w { literals = w.literals ++ l ∷ [] }) next h in
    let tests = and_parts (not (has_variable w.literals l.var)) (fits_kind kind w.literals l) parts.0 in
    subst (λ v. Taken kind (seen ++ word ∷ []) v) parts.1 (record {
      words = ap (λ (d : List ℕ). seen ++ d ∷ []) found.1 ∙ literal_word w.literals w.in_chain w.chain l seen off taken.words;
      in_range = All-push (λ m. IsUpTo most_variable m.var) w.literals l taken.in_range found.0;
      numbers = taken.numbers;
      no_chain = taken.no_chain;
      distinct = distinct_more w.literals l taken.distinct (not-true (has_variable w.literals l.var) tests.0);
      kept = kept_literal kind w l tests.1 taken.kept;
    })

-- any word
word_taken : (kind : StepKind) (w : LineWords) (seen : List (List ℕ)) (word : List ℕ) (next : LineWords) → Taken kind seen w → take_word kind w word ≡ Some next → Taken kind (seen ++ word ∷ []) next
word_taken kind w seen word next taken h = ⊎_elim
    (λ on. numbers_taken kind w seen word next (read_number most_number word) on taken refl
    (sym (cond-true w.in_chain (with_number w (read_number most_number word)) (cond (bytes_eq word colon) (with_colon kind w) (with_literal kind w (read_literal word))) on) ∙ h))
    (λ off.
    let rest : cond (bytes_eq word colon) (with_colon kind w) (with_literal kind w (read_literal word)) ≡ Some next =
    sym (cond-false w.in_chain (with_number w (read_number most_number word)) (cond (bytes_eq word colon) (with_colon kind w) (with_literal kind w (read_literal word))) off) ∙ h in
    ⊎_elim
    (λ is. colon_taken kind w seen word next off ((bytes_eq-Decides word colon).0 is) taken (sym (cond-true (bytes_eq word colon) (with_colon kind w) (with_literal kind w (read_literal word)) is) ∙ rest))
    (λ not_colon. literal_taken kind w seen word next (read_literal word) off taken refl (sym (cond-false (bytes_eq word colon) (with_colon kind w) (with_literal kind w (read_literal word)) not_colon) ∙ rest))
    (cases_Bool (bytes_eq word colon)))
    (cases_Bool w.in_chain)

and_then_some : {A B : Type 0} (f : A → Option B) (o : Option A) (y : B) → option_and_then f o ≡ Some y → (x : A) × (o ≡ Some x) × (f x ≡ Some y)
and_then_some f None y h = cc
and_then_some f (Some x) y h = (x, refl, h)

words_taken : (kind : StepKind) (w : LineWords) (seen words : List (List ℕ)) (final : LineWords) → Taken kind seen w → take_words kind w words ≡ Some final → Taken kind (seen ++ words) final
words_taken kind w seen [] final taken h = subst (λ (ws : List (List ℕ)). Taken kind ws final) (sym (append-nil seen)) (subst (λ v. Taken kind seen v) (Some-same h) taken)
words_taken kind w seen (word ∷ words) final taken h =
    let found = and_then_some (λ next. take_words kind next words) (take_word kind w word) final h in
    let one = word_taken kind w seen word found.0 taken found.1 in
    subst (λ (ws : List (List ℕ)). Taken kind ws final) (append_assoc seen (word ∷ []) words) (words_taken kind found.0 (seen ++ word ∷ []) words final one found.2)

-- at the line's end
has_chain : (in_chain : Bool) (chain : List ℕ) → (in_chain ≡ false → chain ≡ []) → 0 < length chain → in_chain ≡ true
has_chain true chain none some = refl
has_chain false chain none some = absurd (let e = ap (λ (ns : List ℕ). length ns) (none refl) in omega arith)

final_words : (literals : List Lit) (in_chain : Bool) (chain : List ℕ) (seen : List (List ℕ)) → in_chain ≡ true → seen ≡ map literal_text literals ++ colon_words in_chain chain → seen ≡ map literal_text literals ++ colon ∷ map decimal chain
final_words literals true chain seen on e = e
final_words literals false chain seen on e = absurd (false≢true on)

block_words : (literals : List Lit) (in_chain : Bool) (chain : List ℕ) (seen : List (List ℕ)) → in_chain ≡ false → seen ≡ map literal_text literals ++ colon_words in_chain chain → seen ≡ map literal_text literals ++ []
block_words literals true chain seen off e = absurd (false≢true (sym off))
block_words literals false chain seen off e = e

-- what the words of a line give is a step that can be written, and they are its words
pub record Gave (kind : StepKind) (step : Step) (words : List (List ℕ)) : Type 0 where
  pub kind_is : step.kind ≡ kind
  pub can : CanBeWritten step
  pub distinct : IsTrue (has_distinct_variables step.clause)
  pub spelled : words ≡ words_of step

gave : (kind : StepKind) (w : LineWords) (words : List (List ℕ)) (step : Step) → Taken kind words w → step_of kind w ≡ Some step → Gave kind step words
gave Block w words step taken h =
    let parts = Some-same h in
    subst (λ s. Gave Block s words) parts (record {
      kind_is = refl;
      can = record { has_form = (taken.kept.0, taken.kept.1, taken.no_chain taken.kept.2); variables = taken.in_range; numbers = taken.numbers };
      distinct = taken.distinct;
      spelled = block_words w.literals w.in_chain w.chain words taken.kept.2 taken.words;
    })
gave Learned w words step taken h =
    let parts = cond_some (ltb 0 (length w.chain)) (record { kind = Learned; clause = w.literals; chain = w.chain }) step h in
    let some = ltb-true 0 (length w.chain) parts.0 in
    subst (λ s. Gave Learned s words) parts.1 (record {
      kind_is = refl;
      can = record { has_form = some; variables = taken.in_range; numbers = taken.numbers };
      distinct = taken.distinct;
      spelled = final_words w.literals w.in_chain w.chain words (has_chain w.in_chain w.chain taken.no_chain some) taken.words;
    })
gave Derived w words step taken h =
    let parts = cond_some (ltb 0 (length w.chain)) (record { kind = Derived; clause = w.literals; chain = w.chain }) step h in
    let some = ltb-true 0 (length w.chain) parts.0 in
    subst (λ s. Gave Derived s words) parts.1 (record {
      kind_is = refl;
      can = record { has_form = some; variables = taken.in_range; numbers = taken.numbers };
      distinct = taken.distinct;
      spelled = final_words w.literals w.in_chain w.chain words (has_chain w.in_chain w.chain taken.no_chain some) taken.words;
    })

pub words_give : (kind : StepKind) (words : List (List ℕ)) (step : Step) → option_and_then (step_of kind) (take_words kind no_words words) ≡ Some step → Gave kind step words
words_give kind words step h =
    let found = and_then_some (step_of kind) (take_words kind no_words words) step h in
    gave kind found.0 words step (words_taken kind no_words [] words found.0 (taken_start kind) found.1) found.2
