-- The room that the conditions of a statement have: nets of their widths behind the design's signals.
use Rattle.std.proofs.Common.{ℕ, ◌+◌, ◌≡◌, ◌≤◌, Bool, List, [], ◌∷◌, ◌++◌, length, refl, ap, ◌∙◌, subst, arith}
use Rattle.std.specs.Prelude.{if◌then◌else◌}
use Rattle.design_core.specs.declared.signal.Signal.{Signal}
use Rattle.design_core.specs.declared.expression.Typed.{Typed}
use Rattle.design_core.specs.Constant.{is_constant}
use Rattle.design_core.specs.Valuation.{width_at}
use Rattle.freed_conditions.specs.Kept.{Next, behind, behind_one}
use Rattle.freed_conditions.specs.Widths.{own_width}
use Rattle.freed_conditions.specs.Alike.{Room}
use Rattle.freed_conditions.proofs.SignalsMore.{slice_get-left, slice_get-behind}

pub room-left : (signals hidden : List Signal) (frees : ℕ → Bool) (n : Next) (xs ys : List ℕ) → Room signals hidden frees n (xs ++ ys) → Room signals hidden frees n xs
room-left signals hidden frees n xs ys room = record {
  behind = room.behind;
  wide = λ i w at. room.wide i w (slice_get-left xs ys i w at);
  unfreed = room.unfreed;
}

pub room-right : (signals hidden : List Signal) (frees : ℕ → Bool) (n : Next) (xs ys : List ℕ) → Room signals hidden frees n (xs ++ ys)
    → Room signals hidden frees (behind xs n) ys
room-right signals hidden frees n xs ys room = record {
  behind = let from : length signals ≤ n.signal = room.behind in omega arith;
  wide = λ i w at.
      let moved : (n.signal + length xs) + i ≡ n.signal + (length xs + i) = omega arith in
      ap (width_at (signals ++ hidden)) moved ∙ room.wide (length xs + i) w (slice_get-behind xs ys i ∙ at);
  unfreed = λ p above. room.unfreed p (omega arith);
}

pub room-wide : (signals hidden : List Signal) (frees : ℕ → Bool) (n : Next) (w : ℕ) (ws : List ℕ) → Room signals hidden frees n (w ∷ ws)
    → width_at (signals ++ hidden) n.signal ≡ w
room-wide signals hidden frees n w ws room =
    let here : n.signal ≡ n.signal + 0 = omega arith in
    ap (width_at (signals ++ hidden)) here ∙ room.wide 0 w refl

pub room-next : (signals hidden : List Signal) (frees : ℕ → Bool) (n : Next) (w : ℕ) (ws : List ℕ) → Room signals hidden frees n (w ∷ ws)
    → Room signals hidden frees (behind_one n) ws
room-next signals hidden frees n w ws room = room-right signals hidden frees n (w ∷ []) ws room

-- the room of a statement with a condition, where it is known whether that is a constant
pub room-own : (signals hidden : List Signal) (frees : ℕ → Bool) (n : Next) (e : Typed) (w : ℕ) (ws : List ℕ) (t : Bool) → is_constant e.node ≡ t
    → Room signals hidden frees n (own_width e w ++ ws) → Room signals hidden frees n ((if t then [] else (w ∷ [])) ++ ws)
room-own signals hidden frees n e w ws t is room = subst (λ x. Room signals hidden frees n ((if x then [] else (w ∷ [])) ++ ws)) is room
