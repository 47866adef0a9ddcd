-- Steps of shifts.
use Rattle.std.proofs.Common.{◌≡◌, ℕ, ◌+◌, ◌-◌, ◌≤◌, ◌<◌, true, false, ltb, if◌then◌else◌, List, [], ◌∷◌, ◌++◌, length, get_or, drop, replicate, take, refl, sym, ◌∙◌, ap, arith, length-append, length-take, length-drop}
use Rattle.std.proofs.lemmas.List.{drop_all, take_all, length-replicate}
use Rattle.std.proofs.lemmas.Grind.{common_steps}
use Rattle.gate_base.specs.declared.literal.Literal.{Literal}
use Rattle.gate_base.specs.declared.literal.Literal.TheVariants.{Known}
use Rattle.gate_base.specs.declared.node.Node.{Node}
use Rattle.gate_base.specs.Nodes.{counted, mux_made, or_all_made, AddsAnds}
use Rattle.gate_base.proofs.Counts.{refused-more, adds-none, adds-then, adds-counted, and-adds, or_all-adds, counted-or_all}
use Rattle.gate_base.proofs.Chains.{drop-literal}
use Rattle.bit_words.specs.declared.shift.Direction.{Direction}
use Rattle.bit_words.specs.declared.shift.Direction.TheVariants.{Left, Right}
use Rattle.bit_words.specs.Choose.{choice_made}
use Rattle.bit_words.specs.Shift.{moved, stage_made, past_made, stages_made}
use Rattle.bit_words.proofs.ChooseSteps.{choice-adds}

pub take-none : (xs : List Literal) (n : ℕ) → take (n - 0) xs ≡ take n xs
take-none xs n = grind (arith, common_steps)

pub ruleset moves = (take-none)

pub counted-choice : (nodes : List Node) (bits : List Literal) (c : Literal) (xs ys : List Literal) → counted nodes ≤ counted (choice_made nodes bits c xs ys).nodes
counted-choice nodes bits c xs ys = adds-counted (choice-adds nodes bits c xs ys)

pub ruleset past = (counted-choice, counted-or_all, refused-more)

-- a moved word has as many bits
length-moved : (direction : Direction) (fill : Literal) (places : ℕ) (xs : List Literal) → places ≤ length xs → length (moved direction fill places xs) ≡ length xs
length-moved Left fill places xs within =
    omega (arith, length-append (replicate places fill) (take (length xs - places) xs), length-replicate places fill, length-take (length xs - places) xs)
length-moved Right fill places xs within =
    omega (arith, length-append (drop places xs) (replicate places fill), length-replicate places fill, length-drop places xs)

length-choice : (nodes : List Node) (bits : List Literal) (c : Literal) (xs ys : List Literal) → length xs ≡ length ys → length (choice_made nodes bits c xs ys).bits ≡ length bits + length ys
unfolding choice_made
length-choice nodes bits c [] [] same = omega arith
length-choice nodes bits c [] (y ∷ ys) same = absurd (omega arith)
length-choice nodes bits c (x ∷ xs) [] same = absurd (omega arith)
length-choice nodes bits c (x ∷ xs) (y ∷ ys) same =
    let m = mux_made nodes c x y in
    omega (arith, length-choice m.nodes (bits ++ m.bit ∷ []) c xs ys (omega arith), length-append bits (m.bit ∷ []))

pub length-stage : (nodes : List Node) (direction : Direction) (fill : Literal) (places : ℕ) (b : Literal) (xs : List Literal) → places < length xs
    → length (stage_made nodes direction fill places b xs).bits ≡ length xs
unfolding stage_made
length-stage nodes direction fill places b xs within =
    omega (arith, length-choice nodes [] b (moved direction fill places xs) xs (length-moved direction fill places xs (omega (arith, within))))

stage-adds : (nodes : List Node) (direction : Direction) (fill : Literal) (places : ℕ) (b : Literal) (xs : List Literal) → AddsAnds nodes (stage_made nodes direction fill places b xs).nodes
unfolding stage_made
stage-adds nodes direction fill places b xs = choice-adds nodes [] b (moved direction fill places xs) xs

past-adds : (nodes : List Node) (fill : Literal) (ys xs : List Literal) → AddsAnds nodes (past_made nodes fill ys xs).nodes
unfolding past_made
past-adds nodes fill ys xs =
    let past = or_all_made nodes (Known false) ys in
    adds-then (or_all-adds nodes (Known false) ys) (choice-adds past.nodes [] past.bit (replicate (length xs) fill) xs)

pub stages-adds : (nodes : List Node) (direction : Direction) (fill : Literal) (places : ℕ) (ys xs : List Literal) → AddsAnds nodes (stages_made nodes direction fill places ys xs).nodes
unfolding stages_made
stages-adds nodes direction fill places [] xs = past-adds nodes fill [] xs
stages-adds nodes direction fill places (y ∷ ys) xs =
    let m = stage_made nodes direction fill places y xs in
    elim (ltb places (length xs)) as (λ less. AddsAnds nodes (if less then stages_made m.nodes direction fill (places + places) ys m.bits else past_made nodes fill (y ∷ ys) xs).nodes) [
      | true ↦ adds-then (stage-adds nodes direction fill places y xs) (stages-adds m.nodes direction fill (places + places) ys m.bits)
      | false ↦ past-adds nodes fill (y ∷ ys) xs
    ]

pub stages-less : (nodes : List Node) (direction : Direction) (fill : Literal) (places : ℕ) (y : Literal) (ys xs : List Literal) → ltb places (length xs) ≡ true
    → stages_made nodes direction fill places (y ∷ ys) xs
    ≡ stages_made (stage_made nodes direction fill places y xs).nodes direction fill (places + places) ys (stage_made nodes direction fill places y xs).bits
unfolding stages_made
stages-less nodes direction fill places y ys xs less = rw less refl

pub stages-past : (nodes : List Node) (direction : Direction) (fill : Literal) (places : ℕ) (y : Literal) (ys xs : List Literal) → ltb places (length xs) ≡ false
    → stages_made nodes direction fill places (y ∷ ys) xs ≡ past_made nodes fill (y ∷ ys) xs
unfolding stages_made
stages-past nodes direction fill places y ys xs past = rw past refl

pub is-less : (m n : ℕ) → m < n → ltb m n ≡ true
is-less m n less = grind (arith, common_steps)

pub is-past : (m n : ℕ) → n ≤ m → ltb m n ≡ false
is-past m n past = grind (arith, common_steps)

pub stages-more : (nodes : List Node) (direction : Direction) (fill : Literal) (places : ℕ) (ys xs : List Literal) (i : ℕ) → i < length ys → places < length xs
    → stages_made nodes direction fill places (drop i ys) xs
    ≡ stages_made (stage_made nodes direction fill places (get_or ys i (Known false)) xs).nodes direction fill (places + places) (drop (i + 1) ys) (stage_made nodes direction fill places (get_or ys i (Known false)) xs).bits
stages-more nodes direction fill places ys xs i within less =
    ap (λ zs. stages_made nodes direction fill places zs xs) (drop-literal ys i within)
    ∙ stages-less nodes direction fill places (get_or ys i (Known false)) (drop (i + 1) ys) xs (is-less places (length xs) less)

pub stages-rest : (nodes : List Node) (direction : Direction) (fill : Literal) (places : ℕ) (ys xs : List Literal) (i : ℕ) → i < length ys → length xs ≤ places
    → stages_made nodes direction fill places (drop i ys) xs ≡ past_made nodes fill (take (length ys - i) (drop i ys)) xs
stages-rest nodes direction fill places ys xs i within past =
    ap (λ zs. stages_made nodes direction fill places zs xs) (drop-literal ys i within)
    ∙ stages-past nodes direction fill places (get_or ys i (Known false)) (drop (i + 1) ys) xs (is-past places (length xs) past)
    ∙ ap (λ zs. past_made nodes fill zs xs) (sym (drop-literal ys i within) ∙ sym (take_all (length ys - i) (drop i ys) (omega (arith, length-drop i ys))))

pub stages-end : (nodes : List Node) (direction : Direction) (fill : Literal) (places : ℕ) (ys xs : List Literal) (i : ℕ) → length ys ≤ i
    → stages_made nodes direction fill places (drop i ys) xs ≡ past_made nodes fill [] xs
unfolding stages_made
stages-end nodes direction fill places ys xs i end = ap (λ zs. stages_made nodes direction fill places zs xs) (drop_all i ys end)

pub counted-stages_more : (nodes : List Node) (direction : Direction) (fill : Literal) (places : ℕ) (ys xs : List Literal) (i : ℕ) → i < length ys → places < length xs
    → counted (stage_made nodes direction fill places (get_or ys i (Known false)) xs).nodes ≤ counted (stages_made nodes direction fill places (drop i ys) xs).nodes
counted-stages_more nodes direction fill places ys xs i within less =
    let m = stage_made nodes direction fill places (get_or ys i (Known false)) xs in
    rw (stages-more nodes direction fill places ys xs i within less) (adds-counted (stages-adds m.nodes direction fill (places + places) (drop (i + 1) ys) m.bits))

pub ruleset steps = (stages-more, stages-rest, stages-end, counted-stages_more, length-stage, refused-more)
