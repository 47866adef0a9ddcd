-- How many bits the operators make.
use Rattle.std.proofs.Common.{◌≡◌, ℕ, ◌+◌, ◌-◌, ◌≤◌, Bool, false, List, [], ◌∷◌, ◌++◌, length, take, replicate, ◌∙◌, ap, arith, length-append, length-take, inl, inr}
use Rattle.std.proofs.lemmas.List.{length-replicate}
use Rattle.std.proofs.lemmas.Bool.{cases_lt}
use Rattle.gate_base.specs.declared.literal.Literal.{Literal}
use Rattle.gate_base.specs.declared.literal.Literal.TheVariants.{Known}
use Rattle.gate_base.specs.declared.node.Node.{Node}
use Rattle.gate_base.specs.Nodes.{or_all_made, and_made, mux_made}
use Rattle.bit_words.specs.declared.bitwise.Bitwise.{Bitwise}
use Rattle.bit_words.specs.declared.shift.Direction.{Direction}
use Rattle.bit_words.specs.Bits.{have_more}
use Rattle.bit_words.specs.Add.{zeros, column_made, sum_made}
use Rattle.bit_words.specs.Bitwise.{bit_made, bitwise_made}
use Rattle.bit_words.specs.Choose.{choice_made}
use Rattle.bit_words.specs.Multiply.{row_made, row_added, rows_added, product_made}
use Rattle.bit_words.specs.Shift.{stage_made, past_made, stages_made}
use Rattle.bit_words.proofs.ShiftSteps.{length-stage, stages-less, stages-past, is-less, is-past}

length-column : (nodes : List Node) (bits : List Literal) (follows : Bool) (a b carry : Literal) → length (column_made nodes bits follows a b carry).bits ≡ length bits + 1
unfolding column_made
length-column nodes bits follows a b carry = length-append bits _

pub length-sum : (nodes : List Node) (bits xs ys : List Literal) (carry : Literal) → length xs ≤ length ys → length (sum_made nodes bits xs ys carry).bits ≡ length bits + length xs
unfolding sum_made
length-sum nodes bits [] ys carry within = omega arith
length-sum nodes bits (x ∷ xs) [] carry within = absurd (omega (arith, within))
length-sum nodes bits (x ∷ xs) (y ∷ ys) carry within =
    let m = column_made nodes bits (have_more xs ys) x y carry in
    omega (arith, length-sum m.nodes m.bits xs ys m.carry (omega (arith, within)), length-column nodes bits (have_more xs ys) x y carry)

pub length-bitwise : (operator : Bitwise) (nodes : List Node) (bits xs ys : List Literal) → length xs ≤ length ys → length (bitwise_made operator nodes bits xs ys).bits ≡ length bits + length xs
unfolding bitwise_made
length-bitwise operator nodes bits [] ys within = omega arith
length-bitwise operator nodes bits (x ∷ xs) [] within = absurd (omega (arith, within))
length-bitwise operator nodes bits (x ∷ xs) (y ∷ ys) within =
    let m = bit_made operator nodes x y in
    omega (arith, length-bitwise operator m.nodes (bits ++ m.bit ∷ []) xs ys (omega (arith, within)), length-append bits (m.bit ∷ []))

pub length-choice : (nodes : List Node) (bits : List Literal) (c : Literal) (xs ys : List Literal) → length xs ≤ length ys → length (choice_made nodes bits c xs ys).bits ≡ length bits + length xs
unfolding choice_made
length-choice nodes bits c [] ys within = omega arith
length-choice nodes bits c (x ∷ xs) [] within = absurd (omega (arith, within))
length-choice nodes bits c (x ∷ xs) (y ∷ ys) within =
    let m = mux_made nodes c x y in
    omega (arith, length-choice m.nodes (bits ++ m.bit ∷ []) c xs ys (omega (arith, within)), length-append bits (m.bit ∷ []))

length-row : (nodes : List Node) (bits xs : List Literal) (b : Literal) → length (row_made nodes bits xs b).bits ≡ length bits + length xs
unfolding row_made
length-row nodes bits [] b = omega arith
length-row nodes bits (x ∷ xs) b =
    let m = and_made nodes x b in
    omega (arith, length-row m.nodes (bits ++ m.bit ∷ []) xs b, length-append bits (m.bit ∷ []))

length-row_added : (nodes : List Node) (so_far xs : List Literal) (place : ℕ) (b : Literal) → length so_far ≡ length xs → length (row_added nodes so_far xs place b).bits ≡ length xs
unfolding row_added
length-row_added nodes so_far xs place b same =
    let row = row_made nodes (zeros place) (take (length xs - place) xs) b in
    omega (
      arith,
      same,
      length-sum row.nodes [] so_far row.bits (Known false)
          (omega (arith, same, length-row nodes (zeros place) (take (length xs - place) xs) b, length-replicate place (Known false), length-take (length xs - place) xs)),
    )

length-rows : (nodes : List Node) (so_far xs : List Literal) (place : ℕ) (ys : List Literal) → length so_far ≡ length xs → length (rows_added nodes so_far xs place ys).bits ≡ length xs
unfolding rows_added
length-rows nodes so_far xs place [] same = same
length-rows nodes so_far xs place (y ∷ ys) same =
    let m = row_added nodes so_far xs place y in length-rows m.nodes m.bits xs (place + 1) ys (length-row_added nodes so_far xs place y same)

pub length-product : (nodes : List Node) (xs ys : List Literal) → length (product_made nodes xs ys).bits ≡ length xs
length-product nodes xs ys = length-rows nodes (zeros (length xs)) xs 0 ys (length-replicate (length xs) (Known false))

length-past : (nodes : List Node) (fill : Literal) (ys xs : List Literal) → length (past_made nodes fill ys xs).bits ≡ length xs
unfolding past_made
length-past nodes fill ys xs =
    let past = or_all_made nodes (Known false) ys in
    let filled = length-replicate (length xs) fill in
    omega (arith, filled, length-choice past.nodes [] past.bit (replicate (length xs) fill) xs (omega (arith, filled)))

length-stages : (ys : List Literal) (nodes : List Node) (direction : Direction) (fill : Literal) (places : ℕ) (xs : List Literal)
    → length (stages_made nodes direction fill places ys xs).bits ≡ length xs
unfolding stages_made
length-stages [] nodes direction fill places xs = length-past nodes fill [] xs
length-stages (y ∷ ys) nodes direction fill places xs =
    let m = stage_made nodes direction fill places y xs in
    elim (cases_lt places (length xs)) [
      | inl less ↦ ap (λ w. length w.bits) (stages-less nodes direction fill places y ys xs (is-less places (length xs) less))
          ∙ length-stages ys m.nodes direction fill (places + places) m.bits ∙ length-stage nodes direction fill places y xs less
      | inr past ↦ ap (λ w. length w.bits) (stages-past nodes direction fill places y ys xs (is-past places (length xs) past))
          ∙ length-past nodes fill (y ∷ ys) xs
    ]

pub length-shift : (nodes : List Node) (direction : Direction) (fill : Literal) (xs ys : List Literal) → length (stages_made nodes direction fill 1 ys xs).bits ≡ length xs
length-shift nodes direction fill xs ys = length-stages ys nodes direction fill 1 xs
