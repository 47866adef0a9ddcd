-- Texts and their lines.
use Rattle.std.proofs.Common.{◌≡◌, ◌≢◌, ℕ, zero, suc, ◌+◌, ◌-◌, ◌/◌, ◌%◌, ◌<◌, ◌≤◌, true, false, not, eqb, Some, Result, Ok, Err, List, [], ◌∷◌, ◌++◌, length, get_or, map, refl, ap, sym, ◌∙◌, subst, ◌⊎◌, inl, inr, ⊎_elim, arith, All, IsTrue, append_assoc}
use Rattle.std.specs.List.{join_with_byte, flat_map, list_all}
use Rattle.std.proofs.lemmas.Bool.{cases_lt, and_parts, not-true}
use Rattle.std.proofs.lemmas.List.{append-nil, append_cancel_left, same_from_push, get_or_append_left, get_or_at, get_or-map, get_or_past, length-map, length_push}
use Rattle.std.proofs.lemmas.List.Elements.{All-nil, All-cons, All-head, All-tail, All-append, All-get_or, All-from_get_or, All-map, All-weaker}
use Rattle.std.proofs.lemmas.List.Splits.{slice_split_at, join_with_byte-slice_split, length-slice_split}
use Rattle.hex.specs.declared.error.FromHexError.{FromHexError}
use Rattle.hex.specs.Hex.{encode_lower, encode_with, lower_digits, decode_of}
use Rattle.hex.proofs.HexLemmas.{decode_of-encode_lower}
use Rattle.loc_base.specs.declared.digest.Digest.{Digest}
use Rattle.clause_base.specs.declared.log.Step.{Step}
use Rattle.clause_base.specs.Literal.{has_distinct_variables}
use Rattle.clause_base.specs.Steps.{no_step}
use Rattle.proof_check.specs.declared.types.LogText.{LogText}
use Rattle.proof_check.specs.Text.{CanBeWritten, IsDigest, IsLogText, IsLine, IsFirstBadPiece, IsFirstBadLine, step_line, head_line, inputs_line, lines_of, text_of, pieces}
use Rattle.proof_check.specs.LineWords.{read_line}
use Rattle.proof_check.specs.Lines.{IsStepLine, AreStepLines, IsFirstBadStep, LacksLine}
use Rattle.proof_check.proofs.Spelling.{read_line-step_line, step_line-lacks}
use Rattle.std.specs.Prelude.{IsErrAnd}
use Rattle.proof_check.specs.declared.types.LogErr.{LogErr}
use Rattle.proof_check.specs.declared.types.LogErr.TheVariants.{LogSyntax, NoMemory}
use Rattle.proof_check.specs.Errors.{AtLine, OnSyntax}

abbrev pub Lacks : List ℕ → Type 0
Lacks text = All (λ c. eqb c 10 ≡ false) text

abbrev pub ended : List ℕ → List ℕ
ended line = line ++ 10 ∷ []

-- ---- lines without a newline in them

lacks_from_test : (text : List ℕ) → list_all (λ c. not (eqb c 10)) text ≡ true → Lacks text
lacks_from_test [] h = All-nil (λ c. eqb c 10 ≡ false)
lacks_from_test (c ∷ text) h =
    let parts = and_parts (not (eqb c 10)) (list_all (λ d. not (eqb d 10)) text) h in
    All-cons (λ d. eqb d 10 ≡ false) c text (not-true (eqb c 10) parts.0) (lacks_from_test text parts.1)

digit_lacks : (digits : List ℕ) (k : ℕ) → Lacks digits → eqb (get_or digits k 0) 10 ≡ false
digit_lacks digits k all = ⊎_elim
    (λ within. All-get_or (λ c. eqb c 10 ≡ false) digits k 0 within all)
    (λ past. ap (λ c. eqb c 10) (get_or_past digits k 0 past))
    (cases_lt k (length digits))

encoded_lacks : (digits bytes : List ℕ) → Lacks digits → Lacks (encode_with digits bytes)
unfolding encode_with
encoded_lacks digits [] all = All-nil (λ c. eqb c 10 ≡ false)
encoded_lacks digits (b ∷ bytes) all =
    All-cons (λ c. eqb c 10 ≡ false) (get_or digits (b / 16) 0) (get_or digits (b % 16) 0 ∷ encode_with digits bytes) (digit_lacks digits (b / 16) all)
    (All-cons (λ c. eqb c 10 ≡ false) (get_or digits (b % 16) 0) (encode_with digits bytes) (digit_lacks digits (b % 16) all) (encoded_lacks digits bytes all))

inputs_lacks : (digest : Digest) → Lacks (inputs_line digest)
inputs_lacks digest = All-append (λ c. eqb c 10 ≡ false) (105 ∷ 110 ∷ 112 ∷ 117 ∷ 116 ∷ 115 ∷ 32 ∷ []) (encode_lower digest.bytes)
    (lacks_from_test (105 ∷ 110 ∷ 112 ∷ 117 ∷ 116 ∷ 115 ∷ 32 ∷ []) refl) (encoded_lacks lower_digits digest.bytes (lacks_from_test lower_digits refl))

lines_lack : (value : LogText) → IsLogText value → All Lacks (lines_of value)
lines_lack value is =
    All-cons Lacks head_line (inputs_line value.inputs ∷ map step_line value.log) (lacks_from_test head_line refl)
    (All-cons Lacks (inputs_line value.inputs) (map step_line value.log) (inputs_lacks value.inputs)
    (All-map Lacks step_line value.log (All-weaker CanBeWritten (λ step. Lacks (step_line step)) (λ step can. step_line-lacks step can) value.log is.steps)))

-- ---- a text's pieces are its lines

pub pieces_of : (lines : List (List ℕ)) → All Lacks lines → pieces (flat_map ended lines) ≡ lines ++ [] ∷ []
pieces_of [] all = refl
pieces_of (line ∷ lines) all =
    ap pieces (append_assoc line (10 ∷ []) (flat_map ended lines))
    ∙ slice_split_at (λ c. eqb c 10) line 10 (flat_map ended lines) (All-head Lacks line lines all) refl
    ∙ ap (λ (ls : List (List ℕ)). line ∷ ls) (pieces_of lines (All-tail Lacks line lines all))

pub pieces-text_of : (value : LogText) → IsLogText value → pieces (text_of value) ≡ lines_of value ++ [] ∷ []
pieces-text_of value is = pieces_of (lines_of value) (lines_lack value is)

pub join_ended : (lines : List (List ℕ)) → join_with_byte 10 (lines ++ [] ∷ []) ≡ flat_map ended lines
join_ended [] = refl
join_ended (line ∷ []) = sym (append-nil (line ++ 10 ∷ []))
join_ended (line ∷ next ∷ lines) = ap (λ (rest : List ℕ). line ++ 10 ∷ rest) (join_ended (next ∷ lines)) ∙ sym (append_assoc line (10 ∷ []) (flat_map ended (next ∷ lines)))

-- and a text whose pieces are lines and an end is their text
pub text_from_pieces : (text : List ℕ) (value : LogText) → pieces text ≡ lines_of value ++ [] ∷ [] → text ≡ text_of value
text_from_pieces text value e = sym (join_with_byte-slice_split 10 text) ∙ ap (join_with_byte 10) e ∙ join_ended (lines_of value)

-- ---- one value a text

tails_same : (a b : List ℕ) (xs ys : List (List ℕ)) → a ∷ xs ≡ b ∷ ys → xs ≡ ys
tails_same a b xs ys e = cc

step_lines_same : (xs ys : List Step) → All CanBeWritten xs → All CanBeWritten ys → All (λ step. IsTrue (has_distinct_variables step.clause)) xs → All (λ step. IsTrue (has_distinct_variables step.clause)) ys
    → map step_line xs ≡ map step_line ys → xs ≡ ys
step_lines_same [] [] p q r s e = refl
step_lines_same [] (y ∷ ys) p q r s e = cc
step_lines_same (x ∷ xs) [] p q r s e = cc
step_lines_same (x ∷ xs) (y ∷ ys) p q r s e =
    let D : Step → Type 0 = λ step. IsTrue (has_distinct_variables step.clause) in
    let heads : step_line x ≡ step_line y = ap (λ (ls : List (List ℕ)). get_or ls 0 []) e in
    let tails : map step_line xs ≡ map step_line ys = tails_same (step_line x) (step_line y) (map step_line xs) (map step_line ys) e in
    let read : Some x ≡ Some y = sym (read_line-step_line x (All-head CanBeWritten x xs p) (All-head D x xs r)) ∙ ap read_line heads ∙ read_line-step_line y (All-head CanBeWritten y ys q) (All-head D y ys s) in
    let rest : xs ≡ ys = step_lines_same xs ys (All-tail CanBeWritten x xs p) (All-tail CanBeWritten y ys q) (All-tail D x xs r) (All-tail D y ys s) tails in
    let first : x ≡ y = cc in
    ap (λ (st : Step). st ∷ xs) first ∙ ap (λ (ss : List Step). y ∷ ss) rest

digest_from : List ℕ → Digest
digest_from bytes = record { bytes = bytes }

ok_same : (x y : List ℕ) (r : Result (List ℕ) FromHexError) → r ≡ Ok x → r ≡ Ok y → x ≡ y
ok_same x y r p q = cc

digests_same : (d e : Digest) → IsDigest d → IsDigest e → inputs_line d ≡ inputs_line e → d ≡ e
unfolding digest_from
digests_same d e p q same =
    let digits : encode_lower d.bytes ≡ encode_lower e.bytes = append_cancel_left (105 ∷ 110 ∷ 112 ∷ 117 ∷ 116 ∷ 115 ∷ 32 ∷ []) (encode_lower d.bytes) (encode_lower e.bytes) same in
    ap digest_from (ok_same d.bytes e.bytes (decode_of (encode_lower d.bytes)) (decode_of-encode_lower d.bytes p.bytes) (ap decode_of digits ∙ decode_of-encode_lower e.bytes q.bytes))

value_from : Digest → List Step → LogText
value_from inputs log = record { inputs = inputs; log = log }

values_same : (v w : LogText) → v.inputs ≡ w.inputs → v.log ≡ w.log → v ≡ w
unfolding value_from
values_same v w p q = ap (λ (d : Digest). value_from d v.log) p ∙ ap (value_from w.inputs) q

-- two values with one text are one
pub text_of-injective : (v w : LogText) → IsLogText v → IsLogText w → text_of v ≡ text_of w → v ≡ w
text_of-injective v w p q e =
    let same : lines_of v ++ [] ∷ [] ≡ lines_of w ++ [] ∷ [] = sym (pieces-text_of v p) ∙ ap pieces e ∙ pieces-text_of w q in
    let lines : lines_of v ≡ lines_of w = (same_from_push (lines_of v) (lines_of w) [] [] same).0 in
    let inputs : inputs_line v.inputs ≡ inputs_line w.inputs = ap (λ (ls : List (List ℕ)). get_or ls 1 []) lines in
    let steps : map step_line v.log ≡ map step_line w.log =
    tails_same (inputs_line v.inputs) (inputs_line w.inputs) (map step_line v.log) (map step_line w.log)
    (tails_same head_line head_line (inputs_line v.inputs ∷ map step_line v.log) (inputs_line w.inputs ∷ map step_line w.log) lines) in
    values_same v w (digests_same v.inputs w.inputs p.digest q.digest inputs) (step_lines_same v.log w.log p.steps q.steps p.distinct q.distinct steps)

-- ---- the first line that isn't of the form

line_of : (value : LogText) → IsLogText value → (k : ℕ) → k < length (lines_of value) → IsLine k (get_or (lines_of value) k [])
line_of value is zero within = refl
line_of value is (suc zero) within = (value.inputs, is.digest, refl)
line_of value is (suc (suc k)) within =
    let inside : k < length value.log = omega (arith, length-map value.log step_line) in
    let step = get_or value.log k no_step in
    (step, All-get_or CanBeWritten value.log k no_step inside is.steps, All-get_or (λ s. IsTrue (has_distinct_variables s.clause)) value.log k no_step inside is.distinct, get_or-map step_line value.log k no_step [] inside)

-- a text with such a line is the text of no log
pub bad_is_no_text : (text : List ℕ) (line : ℕ) → IsFirstBadLine text line → (value : LogText) → IsLogText value → text ≢ text_of value
bad_is_no_text text line bad value is e =
    let place = line - 1 in
    let lines = lines_of value in
    let whole : pieces text ≡ lines ++ [] ∷ [] = ap pieces e ∙ pieces-text_of value is in
    let size : length (pieces text) ≡ length lines + 1 = ap (λ (ps : List (List ℕ)). length ps) whole ∙ length_push lines [] in
    let two : 2 ≤ length lines = omega arith in
    ⊎_elim
    (λ wrong.
    let inside : place < length lines = (let lt = wrong.0 in omega arith) in
    let at : get_or (pieces text) place [] ≡ get_or lines place [] = ap (λ (ps : List (List ℕ)). get_or ps place []) whole ∙ get_or_append_left lines ([] ∷ []) [] place inside in
    wrong.1 (subst (λ (l : List ℕ). IsLine place l) (sym at) (line_of value is place inside)))
    (λ wrong.
    let end : place ≡ length lines = (let same = wrong.0 in omega arith) in
    let at : get_or (pieces text) place [] ≡ [] = ap (λ (ps : List (List ℕ)). get_or ps place []) whole ∙ get_or_at lines [] [] [] place (sym end) in
    wrong.1 (omega arith, at))
    bad.1.bad

bad_front : (text : List ℕ) (place : ℕ) (before : (k : ℕ) → k < place → IsLine k (get_or (pieces text) k [])) → place < length (pieces text)
    → ((place + 1 < length (pieces text)) × ¬ (IsLine place (get_or (pieces text) place []))) ⊎ ((place + 1 ≡ length (pieces text)) × ¬ ((2 ≤ place) × (get_or (pieces text) place [] ≡ [])))
    → IsFirstBadLine text (place + 1)
bad_front text place before within bad =
    let back : place + 1 - 1 ≡ place = omega arith in
    (omega arith, subst (λ (p : ℕ). IsFirstBadPiece (pieces text) p) (sym back) (record { within = within; before = before; bad = bad }))

-- the first line is lacking or wrong
pub bad_head : (text : List ℕ) → LacksLine 0 (pieces text) → IsFirstBadLine text 1
bad_head text lacks = bad_front text 0 (λ k lt. absurd (omega arith)) (omega (arith, length-slice_split (λ c. eqb c 10) text))
    (⊎_elim (λ wrong. inl wrong) (λ alone. inr (sym alone, λ both. absurd (omega (arith, both.0)))) lacks)

-- or the second is
pub bad_inputs : (text rest : List ℕ) → pieces text ≡ head_line ∷ pieces rest → LacksLine 1 (pieces rest) → IsFirstBadLine text 2
bad_inputs text rest split lacks =
    let size : length (pieces text) ≡ suc (length (pieces rest)) = ap (λ (ps : List (List ℕ)). length ps) split in
    let some = length-slice_split (λ c. eqb c 10) rest in
    let at : get_or (pieces text) 1 [] ≡ get_or (pieces rest) 0 [] = ap (λ (ps : List (List ℕ)). get_or ps 1 []) split in
    bad_front text 1 (λ k lt. before_one k lt) (omega arith)
    (⊎_elim
    (λ wrong. inl ((let more = wrong.0 in omega arith), subst (λ (l : List ℕ). IsLine 1 l → ⊥) (sym at) wrong.1))
    (λ alone. inr (omega arith, λ both. absurd (omega (arith, both.0))))
    lacks)
  where
    before_one : (k : ℕ) → k < 1 → IsLine k (get_or (pieces text) k [])
    before_one zero lt = ap (λ (ps : List (List ℕ)). get_or ps 0 []) split
    before_one (suc k) lt = absurd (omega arith)

-- or the line of a step is
pub bad_step : (text rest : List ℕ) (digest : Digest) (line : ℕ) → pieces text ≡ head_line ∷ inputs_line digest ∷ pieces rest → IsDigest digest → (3 ≤ line) × IsFirstBadStep (pieces rest) (line - 3) → IsFirstBadLine text line
bad_step text rest digest line split is bad =
    let n = line - 3 in
    let size : length (pieces text) ≡ suc (suc (length (pieces rest))) = ap (λ (ps : List (List ℕ)). length ps) split in
    let at : get_or (pieces text) (suc (suc n)) [] ≡ get_or (pieces rest) n [] = ap (λ (ps : List (List ℕ)). get_or ps (suc (suc n)) []) split in
    let low = bad.0 in
    let number : suc (suc n) + 1 ≡ line = omega arith in
    let within = bad.1.within in
    subst (λ (l : ℕ). IsFirstBadLine text l) number (bad_front text (suc (suc n)) (λ k lt. before_steps k lt) (omega arith)
    (⊎_elim
    (λ wrong. inl ((let more = wrong.0 in omega arith), subst (λ (l : List ℕ). IsStepLine l → ⊥) (sym at) wrong.1))
    (λ ends. inr ((let last = ends.0 in omega arith), λ both. ends.1 (sym at ∙ both.1)))
    bad.1.bad))
  where
    before_steps : (k : ℕ) → k < suc (suc (line - 3)) → IsLine k (get_or (pieces text) k [])
    before_steps zero lt = ap (λ (ps : List (List ℕ)). get_or ps 0 []) split
    before_steps (suc zero) lt = (digest, is, ap (λ (ps : List (List ℕ)). get_or ps 1 []) split)
    before_steps (suc (suc k)) lt =
        subst IsStepLine (sym (ap (λ (ps : List (List ℕ)). get_or ps (suc (suc k)) []) split)) (bad.1.before k (omega arith))

-- ---- the whole text

pub read_whole : (text rest : List ℕ) (digest : Digest) (log : List Step) → pieces text ≡ head_line ∷ inputs_line digest ∷ pieces rest → IsDigest digest → AreStepLines (pieces rest) log
    → IsLogText (record { inputs = digest; log = log }) × (text ≡ text_of (record { inputs = digest; log = log }))
read_whole text rest digest log split is lines = (
  record { digest = is; steps = lines.steps; distinct = lines.distinct },
  text_from_pieces text (record { inputs = digest; log = log }) (split ∙ ap (λ (ps : List (List ℕ)). head_line ∷ inputs_line digest ∷ ps) lines.lines),
)

-- what an answer says of its line says the same of the error that it is
pub err_same : {T : Type 0} (answer : Result T LogErr) (e : LogErr) → IsErrAnd answer (λ x. x ≡ e) → answer ≡ Err e
err_same (Ok x) e h = absurd h
err_same (Err f) e h = ap Err h

pub at_each_line : (P Q : ℕ → Type 0) (e : LogErr) → ((line : ℕ) → P line → Q line) → AtLine P e → AtLine Q e
at_each_line P Q (LogSyntax line) f h = f line h
at_each_line P Q NoMemory f h = tt

pub on_err : {T : Type 0} (P : ℕ → Type 0) (answer : Result T LogErr) (e : LogErr) → answer ≡ Err e → AtLine P e → OnSyntax answer P
on_err P answer e is h = subst (λ r. OnSyntax r P) (sym is) h

pub inputs_split : (text rest after : List ℕ) (digest : Digest) → pieces text ≡ head_line ∷ pieces rest → pieces rest ≡ inputs_line digest ∷ pieces after → pieces text ≡ head_line ∷ inputs_line digest ∷ pieces after
inputs_split text rest after digest p q = p ∙ ap (λ (ps : List (List ℕ)). head_line ∷ ps) q

pub unmapped : {A B : Type 0} (P : B → Type 0) (f : A → B) (xs : List A) (d : A) → All P (map f xs) → All (λ x. P (f x)) xs
unmapped P f xs d all = All-from_get_or (λ x. P (f x)) xs d (λ i within.
    subst P (get_or-map f xs i d (f d) within) (All-get_or P (map f xs) i (f d) (omega (arith, length-map xs f)) all))
