-- The words of a step that can be written are read as that step.
use Rattle.std.proofs.Common.{◌≡◌, ℕ, ◌<◌, ◌≤◌, ◌^◌, Bool, true, false, not, cond, eqb, ltb, Option, Some, None, List, [], ◌∷◌, ◌++◌, length, get_or, map, refl, ap, sym, ◌∙◌, subst, ◌⊎◌, ⊎_elim, inl, inr, arith, All, lit<, append_assoc}
use Rattle.std.specs.Prelude.{decimal, IsTrue}
use Rattle.std.specs.Str.{bytes_eq}
use Rattle.std.specs.Option.{option_and_then}
use Rattle.std.specs.Int.{IsInRange}
use Rattle.std.specs.List.{slice_split, join_with_byte}
use Rattle.std.specs.List.Sorted.{IsStrictlyIncreasing}
use Rattle.std.proofs.lemmas.Bool.{and_from, cond-true, cond-false, false_from_ne_true, not_from_false, ne_eqb, lt-ltb}
use Rattle.std.proofs.lemmas.Fmt.{decimal_is_IsNumeral}
use Rattle.std.proofs.lemmas.Str.Parse.{digit_at}
use Rattle.std.proofs.lemmas.List.{append-nil}
use Rattle.std.proofs.lemmas.List.Elements.{All-nil, All-cons, All-head, All-tail, All-append, All-from_get_or, All-map, All-weaker}
use Rattle.std.proofs.lemmas.List.Splits.{slice_split_at, slice_split_none, join_with_byte-slice_split}
use Rattle.std.proofs.lemmas.Slice.Eq.{bytes_eq-Decides}
use Rattle.loc_base.proofs.ShelfOptions.{Some-same}
use Rattle.clause_base.specs.declared.literal.Lit.{Lit}
use Rattle.clause_base.specs.declared.log.Step.{Step}
use Rattle.clause_base.specs.declared.log.StepKind.{StepKind}
use Rattle.clause_base.specs.declared.log.StepKind.TheVariants.{Block, Learned, Derived}
use Rattle.clause_base.specs.Literal.{has_variable, has_distinct_variables}
use Rattle.clause_base.proofs.Sets.{distinct_parts}
use Rattle.proof_check.specs.Text.{IsUpTo, most_variable, most_number, literal_text, chain_words, words_of, spaced, letter, step_line, CanBeWritten, HasFormOf}
use Rattle.proof_check.specs.LineWords.{LineWords, no_words, take_word, take_words, with_literal, with_number, with_colon, read_literal, fits, fits_kind, last_variable, step_of, kind_of, read_pieces, read_line}
use Rattle.proof_check.proofs.Lexed.{read_number-decimal, read_literal-text}
use Rattle.proof_check.proofs.Increasing.{variables, increasing_at}
use Rattle.proof_check.proofs.Reading.{words_give}

-- ---- the bytes of words

-- a byte of a literal or a number
abbrev pub IsWordByte : ℕ → Type 0
IsWordByte c = (45 ≤ c) × (c ≤ 57)

pub decimal-bytes : (n : ℕ) → n < 2 ^ 64 → All IsWordByte (decimal n)
decimal-bytes n small = All-from_get_or IsWordByte (decimal n) 0 (λ k within.
    let digits = (decimal_is_IsNumeral n small).0.1 in
    let here : IsInRange 48 57 (get_or (decimal n) k 0) = digit_at (decimal n) k digits within in
    (omega (arith, here.0), here.1))

literal_bytes : (v : ℕ) (s : Bool) → v < 2 ^ 64 → All IsWordByte (literal_text (record { var = v; negated = s }))
literal_bytes v true small = All-cons IsWordByte 45 (decimal v) (omega arith, omega arith) (decimal-bytes v small)
literal_bytes v false small = decimal-bytes v small

small_variable : (v : ℕ) → IsUpTo most_variable v → v < 2 ^ 64
small_variable v up = let le : v ≤ most_variable = up.1 in omega arith

small_number : (n : ℕ) → IsUpTo most_number n → n < 2 ^ 64
small_number n up = let le : n ≤ most_number = up.1 in omega arith

pub literal_text-bytes : (l : Lit) → IsUpTo most_variable l.var → All IsWordByte (literal_text l)
literal_text-bytes l up = literal_bytes l.var l.negated (small_variable l.var up)

not_colon : (word : List ℕ) → All IsWordByte word → bytes_eq word (58 ∷ []) ≡ false
not_colon word all = false_from_ne_true (bytes_eq word (58 ∷ [])) (λ is.
    let e = (bytes_eq-Decides word (58 ∷ [])).0 is in
    let head : IsWordByte 58 = All-head IsWordByte 58 [] (subst (λ (w : List ℕ). All IsWordByte w) e all) in
    absurd (omega (arith, head.1)))

-- ---- the words are taken

abbrev state : List Lit → List ℕ → Bool → LineWords
state literals chain in_chain = record { literals = literals; chain = chain; in_chain = in_chain }

-- a block's literals are negations of ascending variables
abbrev InOrder : StepKind → List Lit → Type 0
InOrder Block clause = All (λ l. l.negated ≡ true) clause × IsStrictlyIncreasing (variables clause)
InOrder Learned clause = Unit {0}
InOrder Derived clause = Unit {0}

fits_at : (kind : StepKind) (before : List Lit) (l : Lit) (after : List Lit) → IsUpTo most_variable l.var → InOrder kind (before ++ l ∷ after) → fits_kind kind before l ≡ true
fits_at Block before l after up order =
    and_from l.negated (ltb (last_variable before) l.var)
    (All-get_or_at before l after order.0) (lt-ltb (last_variable before) l.var (increasing_at before l after up.0 order.1))
  where
    All-get_or_at : (xs : List Lit) (x : Lit) (ys : List Lit) → All (λ m. m.negated ≡ true) (xs ++ x ∷ ys) → x.negated ≡ true
    All-get_or_at [] x ys all = All-head (λ m. m.negated ≡ true) x ys all
    All-get_or_at (m ∷ xs) x ys all = All-get_or_at xs x ys (All-tail (λ k. k.negated ≡ true) m (xs ++ x ∷ ys) all)
fits_at Learned before l after up order = refl
fits_at Derived before l after up order = refl

literal_take : (kind : StepKind) (before : List Lit) (l : Lit) → IsUpTo most_variable l.var → fits kind before l ≡ true → take_word kind (state before [] false) (literal_text l) ≡ Some (state (before ++ l ∷ []) [] false)
literal_take kind before l up fit =
    cond-false (bytes_eq (literal_text l) (58 ∷ [])) (with_colon kind (state before [] false)) (with_literal kind (state before [] false) (read_literal (literal_text l))) (not_colon (literal_text l) (literal_text-bytes l up))
    ∙ ap (with_literal kind (state before [] false)) (read_literal-text l up)
    ∙ cond-true (fits kind before l) (Some (state (before ++ l ∷ []) [] false)) None fit

literals_take : (kind : StepKind) (before ls : List Lit) (rest : List (List ℕ)) → All (λ l. IsUpTo most_variable l.var) ls → has_distinct_variables (before ++ ls) ≡ true → InOrder kind (before ++ ls)
    → take_words kind (state before [] false) (map literal_text ls ++ rest) ≡ take_words kind (state (before ++ ls) [] false) rest
literals_take kind before [] rest up distinct order = ap (λ (xs : List Lit). take_words kind (state xs [] false) rest) (sym (append-nil before))
literals_take kind before (l ∷ ls) rest up distinct order =
    let here = All-head (λ m. IsUpTo most_variable m.var) l ls up in
    let later = All-tail (λ m. IsUpTo most_variable m.var) l ls up in
    let new : has_variable before l.var ≡ false = (distinct_parts before l ls distinct).0 in
    let fit = and_from (not (has_variable before l.var)) (fits_kind kind before l) (not_from_false (has_variable before l.var) new) (fits_at kind before l ls here order) in
    let shift : (before ++ l ∷ []) ++ ls ≡ before ++ l ∷ ls = append_assoc before (l ∷ []) ls in
    ap (option_and_then (λ next. take_words kind next (map literal_text ls ++ rest))) (literal_take kind before l here fit)
    ∙ literals_take kind (before ++ l ∷ []) ls rest later (ap has_distinct_variables shift ∙ distinct) (subst (InOrder kind) (sym shift) order)
    ∙ ap (λ (xs : List Lit). take_words kind (state xs [] false) rest) shift

numbers_take : (kind : StepKind) (clause : List Lit) (before ns : List ℕ) → All (IsUpTo most_number) ns → take_words kind (state clause before true) (map decimal ns) ≡ Some (state clause (before ++ ns) true)
numbers_take kind clause before [] up = ap (λ (xs : List ℕ). Some (state clause xs true)) (sym (append-nil before))
numbers_take kind clause before (n ∷ ns) up =
    let here = All-head (IsUpTo most_number) n ns up in
    ap (λ read. option_and_then (λ next. take_words kind next (map decimal ns)) (with_number (state clause before true) read)) (read_number-decimal most_number n (lit< tt) here)
    ∙ numbers_take kind clause (before ++ n ∷ []) ns (All-tail (IsUpTo most_number) n ns up)
    ∙ ap (λ (xs : List ℕ). Some (state clause xs true)) (append_assoc before (n ∷ []) ns)

some_positive : (n : ℕ) → 0 < n → ltb 0 n ≡ true
some_positive n h = lt-ltb 0 n h

words_take : (kind : StepKind) (clause : List Lit) (chain : List ℕ) → All (λ l. IsUpTo most_variable l.var) clause → All (IsUpTo most_number) chain → has_distinct_variables clause ≡ true
    → HasFormOf kind (record { kind = kind; clause = clause; chain = chain })
    → option_and_then (step_of kind) (take_words kind no_words (map literal_text clause ++ chain_words kind chain)) ≡ Some (record { kind = kind; clause = clause; chain = chain })
words_take Block clause chain up numbers distinct form =
    ap (option_and_then (step_of Block)) (literals_take Block [] clause [] up distinct (form.0, form.1))
    ∙ ap (λ (ns : List ℕ). Some (record { kind = Block; clause = clause; chain = ns })) (sym form.2)
words_take Learned clause chain up numbers distinct form =
    ap (option_and_then (step_of Learned)) (literals_take Learned [] clause (chain_words Learned chain) up distinct tt ∙ numbers_take Learned clause [] chain numbers)
    ∙ cond-true (ltb 0 (length chain)) (Some (record { kind = Learned; clause = clause; chain = chain })) None (some_positive (length chain) form)
words_take Derived clause chain up numbers distinct form =
    ap (option_and_then (step_of Derived)) (literals_take Derived [] clause (chain_words Derived chain) up distinct tt ∙ numbers_take Derived clause [] chain numbers)
    ∙ cond-true (ltb 0 (length chain)) (Some (record { kind = Derived; clause = clause; chain = chain })) None (some_positive (length chain) form)

-- ---- the words between spaces

abbrev Lacks : ℕ → List ℕ → Type 0
Lacks byte text = All (λ c. eqb c byte ≡ false) text

split_spaced : (word : List ℕ) (words : List (List ℕ)) → Lacks 32 word → All (Lacks 32) words → slice_split (λ c. eqb c 32) (word ++ spaced words) ≡ word ∷ words
split_spaced word [] none all = ap (slice_split (λ c. eqb c 32)) (append-nil word) ∙ slice_split_none (λ c. eqb c 32) word none
split_spaced word (next ∷ words) none all =
    slice_split_at (λ c. eqb c 32) word 32 (next ++ spaced words) none refl
    ∙ ap (λ (ws : List (List ℕ)). word ∷ ws) (split_spaced next words (All-head (Lacks 32) next words all) (All-tail (Lacks 32) next words all))

word_lacks : (byte : ℕ) → byte < 45 → (word : List ℕ) → All IsWordByte word → Lacks byte word
word_lacks byte low word all = All-weaker IsWordByte (λ c. eqb c byte ≡ false) (λ c h. ne_eqb c byte (λ e. absurd (omega (arith, h.0, e)))) word all

colon_lacks : (byte : ℕ) → byte < 45 → Lacks byte (58 ∷ [])
colon_lacks byte low = All-cons (λ c. eqb c byte ≡ false) 58 [] (ne_eqb 58 byte (λ e. absurd (omega arith))) (All-nil (λ c. eqb c byte ≡ false))

literals_lack : (byte : ℕ) → byte < 45 → (ls : List Lit) → All (λ l. IsUpTo most_variable l.var) ls → All (Lacks byte) (map literal_text ls)
literals_lack byte low ls up = All-map (Lacks byte) literal_text ls (All-weaker (λ l. IsUpTo most_variable l.var) (λ l. Lacks byte (literal_text l)) (λ l h. word_lacks byte low (literal_text l) (literal_text-bytes l h)) ls up)

numbers_lack : (byte : ℕ) → byte < 45 → (ns : List ℕ) → All (IsUpTo most_number) ns → All (Lacks byte) (map decimal ns)
numbers_lack byte low ns up = All-map (Lacks byte) decimal ns (All-weaker (IsUpTo most_number) (λ n. Lacks byte (decimal n)) (λ n h. word_lacks byte low (decimal n) (decimal-bytes n (small_number n h))) ns up)

chain_lacks : (kind : StepKind) (byte : ℕ) → byte < 45 → (ns : List ℕ) → All (IsUpTo most_number) ns → All (Lacks byte) (chain_words kind ns)
chain_lacks Block byte low ns up = All-nil (Lacks byte)
chain_lacks Learned byte low ns up = All-cons (Lacks byte) (58 ∷ []) (map decimal ns) (colon_lacks byte low) (numbers_lack byte low ns up)
chain_lacks Derived byte low ns up = All-cons (Lacks byte) (58 ∷ []) (map decimal ns) (colon_lacks byte low) (numbers_lack byte low ns up)

pub words_lack : (byte : ℕ) → byte < 45 → (step : Step) → CanBeWritten step → All (Lacks byte) (words_of step)
words_lack byte low step can = All-append (Lacks byte) (map literal_text step.clause) (chain_words step.kind step.chain) (literals_lack byte low step.clause can.variables) (chain_lacks step.kind byte low step.chain can.numbers)

letter_lacks : (kind : StepKind) (byte : ℕ) → byte < 45 → eqb (letter kind) byte ≡ false
letter_lacks Block byte low = ne_eqb 98 byte (λ e. absurd (omega arith))
letter_lacks Learned byte low = ne_eqb 108 byte (λ e. absurd (omega arith))
letter_lacks Derived byte low = ne_eqb 100 byte (λ e. absurd (omega arith))

kind_of_letter : (kind : StepKind) → kind_of (letter kind ∷ []) ≡ Some kind
kind_of_letter Block = refl
kind_of_letter Learned = refl
kind_of_letter Derived = refl

pieces_of_line : (step : Step) → CanBeWritten step → slice_split (λ c. eqb c 32) (step_line step) ≡ (letter step.kind ∷ []) ∷ words_of step
pieces_of_line step can = split_spaced (letter step.kind ∷ []) (words_of step)
    (All-cons (λ c. eqb c 32 ≡ false) (letter step.kind) [] (letter_lacks step.kind 32 (lit< tt)) (All-nil (λ c. eqb c 32 ≡ false))) (words_lack 32 (lit< tt) step can)

-- a step's line is read as the step
pub read_line-step_line : (step : Step) → CanBeWritten step → IsTrue (has_distinct_variables step.clause) → read_line (step_line step) ≡ Some step
read_line-step_line step can distinct =
    ap read_pieces (pieces_of_line step can)
    ∙ ap (option_and_then (λ kind. option_and_then (step_of kind) (take_words kind no_words (words_of step)))) (kind_of_letter step.kind)
    ∙ words_take step.kind step.clause step.chain can.variables can.numbers distinct can.has_form

-- ---- and what is read as a step is its line

join_spaced : (word : List ℕ) (words : List (List ℕ)) → join_with_byte 32 (word ∷ words) ≡ word ++ spaced words
join_spaced word [] = sym (append-nil word)
join_spaced word (next ∷ words) = ap (λ (rest : List ℕ). word ++ 32 ∷ rest) (join_spaced next words)

and_then_some : {A B : Type 0} (f : A → Option B) (o : Option A) (y : B) → option_and_then f o ≡ Some y → (x : A) × (o ≡ Some x) × (f x ≡ Some y)
and_then_some f None y h = cc
and_then_some f (Some x) y h = (x, refl, h)

cond_cases : {A : Type 0} (b : Bool) (x y z : A) → cond b x y ≡ z → ((b ≡ true) × (x ≡ z)) ⊎ ((b ≡ false) × (y ≡ z))
cond_cases true x y z h = inl (refl, h)
cond_cases false x y z h = inr (refl, h)

letter_of_kind : (word : List ℕ) (kind : StepKind) → kind_of word ≡ Some kind → word ≡ letter kind ∷ []
letter_of_kind word kind h = ⊎_elim
    (λ b. (bytes_eq-Decides word (98 ∷ [])).0 b.0 ∙ ap (λ k. letter k ∷ []) (Some-same b.1))
    (λ not_b. ⊎_elim
    (λ l. (bytes_eq-Decides word (108 ∷ [])).0 l.0 ∙ ap (λ k. letter k ∷ []) (Some-same l.1))
    (λ not_l. ⊎_elim
    (λ d. (bytes_eq-Decides word (100 ∷ [])).0 d.0 ∙ ap (λ k. letter k ∷ []) (Some-same d.1))
    (λ none. let e = none.1 in cc)
    (cond_cases (bytes_eq word (100 ∷ [])) (Some Derived) None (Some kind) not_l.1))
    (cond_cases (bytes_eq word (108 ∷ [])) (Some Learned) (cond (bytes_eq word (100 ∷ [])) (Some Derived) None) (Some kind) not_b.1))
    (cond_cases (bytes_eq word (98 ∷ [])) (Some Block) (cond (bytes_eq word (108 ∷ [])) (Some Learned) (cond (bytes_eq word (100 ∷ [])) (Some Derived) None)) (Some kind) h)

-- a line that is a step's
pub record IsLineOf (step : Step) (line : List ℕ) : Type 0 where
  pub can : CanBeWritten step
  pub distinct : IsTrue (has_distinct_variables step.clause)
  pub spelled : line ≡ step_line step

read_pieces-some : (line : List ℕ) (pieces : List (List ℕ)) (step : Step) → join_with_byte 32 pieces ≡ line → read_pieces pieces ≡ Some step → IsLineOf step line
read_pieces-some line [] step joined h = cc
read_pieces-some line (first ∷ more) step joined h =
    let found = and_then_some (λ kind. option_and_then (step_of kind) (take_words kind no_words more)) (kind_of first) step h in
    let given = words_give found.0 more step found.2 in
    let head : first ≡ letter step.kind ∷ [] = letter_of_kind first found.0 found.1 ∙ ap (λ k. letter k ∷ []) (sym given.kind_is) in
    record {
      can = given.can;
      distinct = given.distinct;
      spelled = sym joined ∙ join_spaced first more ∙ ap (λ (w : List ℕ). w ++ spaced more) head ∙ ap (λ (ws : List (List ℕ)). letter step.kind ∷ spaced ws) given.spelled;
    }

pub read_line-some : (line : List ℕ) (step : Step) → read_line line ≡ Some step → IsLineOf step line
read_line-some line step h = read_pieces-some line (slice_split (λ c. eqb c 32) line) step (join_with_byte-slice_split 32 line) h

-- no newline stands in a step's line
spaced_lacks : (byte : ℕ) → eqb 32 byte ≡ false → (words : List (List ℕ)) → All (Lacks byte) words → Lacks byte (spaced words)
spaced_lacks byte apart [] all = All-nil (λ c. eqb c byte ≡ false)
spaced_lacks byte apart (word ∷ words) all =
    All-append (λ c. eqb c byte ≡ false) (32 ∷ word) (spaced words) (All-cons (λ c. eqb c byte ≡ false) 32 word apart (All-head (Lacks byte) word words all)) (spaced_lacks byte apart words (All-tail (Lacks byte) word words all))

pub step_line-lacks : (step : Step) → CanBeWritten step → All (λ c. eqb c 10 ≡ false) (step_line step)
step_line-lacks step can = All-cons (λ c. eqb c 10 ≡ false) (letter step.kind) (spaced (words_of step)) (letter_lacks step.kind 10 (lit< tt)) (spaced_lacks 10 refl (words_of step) (words_lack 10 (lit< tt) step can))
