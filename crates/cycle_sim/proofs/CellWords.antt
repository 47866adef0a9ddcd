-- The words of the signals among the cells, and what is left where some of them are replaced.
use Rattle.std.proofs.Common.{◌≡◌, ℕ, ◌+◌, ◌-◌, ◌≤◌, List, [], ◌∷◌, ◌++◌, length, map, take, drop, arith, sym, refl, ◌∙◌, ap, subst, inl, inr}
use Rattle.std.specs.Prelude.{true, false, ◌&&◌, nat_lt, slice_get, Some}
use Rattle.std.proofs.lemmas.Bool.{cases_lt}
use Rattle.std.proofs.lemmas.List.{map-append, take-append-drop, drop-map, take-map, drop-drop}
use Rattle.loc_base.specs.declared.bits.Bits.{Bits}
use Rattle.loc_base.specs.Bits.{width_of}
use Rattle.loc_base.proofs.ShelfOptions.{Some-same}
use Rattle.design_core.specs.Valuation.{Valuation, number, width_at}
use Rattle.design_core.specs.Words.{valuation_of, AreWordsOf}
use Rattle.plain_values.proofs.EvaluateWords.{words-length}
use Rattle.plain_sim.proofs.EvaluateSweep.{valuation-high}
use Rattle.cycle_code.specs.Program.{Program, signals_of, count_of}
use Rattle.cycle_code.specs.Cells.{width_in}
use Rattle.cycle_code.specs.Fitting.{IsSound}
use Rattle.cycle_code.proofs.WordCells.{valuation-take, valuation-drop, words-now, words-later}
use Rattle.cycle_sim.specs.Compiled.{AreCells, now_in, later_in, room_in}

-- ---- the words
-- the pieces of the cells of a program
abbrev pub now_words : Program → List Bits → List Bits
now_words p cells = take (count_of p) cells

abbrev pub later_words : Program → List Bits → List Bits
later_words p cells = take (count_of p) (drop (count_of p) cells)

abbrev pub room_words : Program → List Bits → List Bits
room_words p cells = take (count_of p) (drop (count_of p) (drop (count_of p) cells))

abbrev pub own_words : Program → List Bits → List Bits
own_words p cells = drop (count_of p) (drop (count_of p) (drop (count_of p) cells))

pub now-valuation : (p : Program) (cells : List Bits) → valuation_of (now_words p cells) ≡ now_in p (valuation_of cells)
now-valuation p cells = valuation-take (count_of p) cells

pub later-valuation : (p : Program) (cells : List Bits) → valuation_of (later_words p cells) ≡ later_in p (valuation_of cells)
later-valuation p cells =
    valuation-take (count_of p) (drop (count_of p) cells)
    ∙ ap (λ (V : Valuation). λ s b. nat_lt s (count_of p) && V s b) (valuation-drop (count_of p) cells)

twice : (p : Program) (cells : List Bits) → drop (count_of p) (drop (count_of p) cells) ≡ drop (count_of p + count_of p) cells
twice p cells = drop-drop (count_of p) (count_of p) cells

pub room-valuation : (p : Program) (cells : List Bits) → valuation_of (room_words p cells) ≡ room_in p (valuation_of cells)
room-valuation p cells =
    ap (λ xs. valuation_of (take (count_of p) xs)) (twice p cells)
    ∙ valuation-take (count_of p) (drop (count_of p + count_of p) cells)
    ∙ ap (λ (V : Valuation). λ s b. nat_lt s (count_of p) && V s b) (valuation-drop (count_of p + count_of p) cells)

pub words-room : (p : Program) (cells : List Bits) → IsSound p → map width_of cells ≡ p.widths
    → AreWordsOf (signals_of p) (room_words p cells)
words-room p cells sound same = record {
  widths = ap (λ xs. map width_of (take (count_of p) xs)) (twice p cells)
      ∙ sym (take-map width_of (count_of p) (drop (count_of p + count_of p) cells))
      ∙ ap (take (count_of p)) (sym (drop-map width_of (count_of p + count_of p) cells) ∙ ap (drop (count_of p + count_of p)) same)
      ∙ sound.room;
}

-- ---- the cells in pieces
-- the first pieces, and what is behind them
pub record ArePieces (p : Program) (cells one other behind : List Bits) : Type 0 where
  pub now : one ≡ now_words p cells
  pub later : other ≡ later_words p cells
  pub last : behind ≡ drop (count_of p) (drop (count_of p) cells)

pub pieces-of : (p : Program) (cells now rest later last : List Bits) (n : ℕ) → n ≡ count_of p → now ≡ take n cells → rest ≡ drop n cells
    → later ≡ take n rest → last ≡ drop n rest → ArePieces p cells now later last
pieces-of p cells now rest later last n same one behind two end = record {
  now = one ∙ ap (λ k. take k cells) same;
  later = two ∙ ap (take n) behind ∙ ap (λ k. take k (drop k cells)) same;
  last = end ∙ ap (drop n) behind ∙ ap (λ k. drop k (drop k cells)) same;
}

pub pieces-now : (p : Program) (cells now later last : List Bits) → IsSound p → AreCells p cells
    → ArePieces p cells now later last → AreWordsOf (signals_of p) now
pieces-now p cells now later last sound are pieces = subst (AreWordsOf (signals_of p)) (sym pieces.now) (words-now p cells sound are.widths)

pub pieces-later : (p : Program) (cells now later last : List Bits) → IsSound p → AreCells p cells
    → ArePieces p cells now later last → AreWordsOf (signals_of p) later
pieces-later p cells now later last sound are pieces =
    subst (AreWordsOf (signals_of p)) (sym pieces.later) (words-later p cells sound are.widths)

-- the room, the first of what is behind
pub pieces-room : (p : Program) (cells now later last room : List Bits) (n : ℕ) → n ≡ count_of p
    → ArePieces p cells now later last → room ≡ take n last
    → room ≡ room_words p cells
pieces-room p cells now later last room n same pieces is =
    is ∙ ap (take n) pieces.last ∙ ap (λ k. take k (drop (count_of p) (drop (count_of p) cells))) same

pub pieces-own : (p : Program) (cells now later last own : List Bits) (n : ℕ) → n ≡ count_of p
    → ArePieces p cells now later last → own ≡ drop n last
    → own ≡ own_words p cells
pieces-own p cells now later last own n same pieces is =
    is ∙ ap (drop n) pieces.last ∙ ap (λ k. drop k (drop (count_of p) (drop (count_of p) cells))) same

-- ---- words that are replaced
front : (n : ℕ) (xs ys : List Bits) → length xs ≡ n → take n (xs ++ ys) ≡ xs
front n [] ys same = subst (λ k. take k ys ≡ []) same refl
front n (x ∷ xs) ys same = subst (λ k. take k (x ∷ (xs ++ ys)) ≡ x ∷ xs) same (ap (λ zs. x ∷ zs) (front (length xs) xs ys refl))

back : (n : ℕ) (xs ys : List Bits) → length xs ≡ n → drop n (xs ++ ys) ≡ ys
back n [] ys same = subst (λ k. drop k ys ≡ ys) same refl
back n (x ∷ xs) ys same = subst (λ k. drop k (x ∷ (xs ++ ys)) ≡ ys) same (back (length xs) xs ys refl)

-- cells with other words in place of those of the signals
abbrev pub replaced : Program → List Bits → List Bits → List Bits → List Bits → List Bits
replaced p cells now later room = now ++ (later ++ (room ++ own_words p cells))

-- what is left in them
pub record AreReplaced (p : Program) (new one other third : List Bits) : Type 0 where
  pub now : now_in p (valuation_of new) ≡ valuation_of one
  pub later : later_in p (valuation_of new) ≡ valuation_of other
  pub room : room_in p (valuation_of new) ≡ valuation_of third
  pub cells : AreCells p new

pub replaced-left : (p : Program) (cells now later room : List Bits) → IsSound p → AreCells p cells
    → AreWordsOf (signals_of p) now → AreWordsOf (signals_of p) later
    → AreWordsOf (signals_of p) room → AreReplaced p (replaced p cells now later room) now later room
replaced-left p cells now later room sound are first second third = record {
  now = sym (now-valuation p new) ∙ ap valuation_of one;
  later = sym (later-valuation p new) ∙ ap valuation_of two;
  room = sym (room-valuation p new) ∙ ap valuation_of three;
  cells = record { widths = widths; constants = record { constants = λ c w fixed is. held c w fixed is } };
}
  where
    new : List Bits
    new = replaced p cells now later room

    own : List Bits
    own = own_words p cells

    now_many : length now ≡ count_of p
    now_many = words-length (signals_of p) now first

    later_many : length later ≡ count_of p
    later_many = words-length (signals_of p) later second

    room_many : length room ≡ count_of p
    room_many = words-length (signals_of p) room third

    one : now_words p new ≡ now
    one = front (count_of p) now (later ++ (room ++ own)) now_many

    behind : drop (count_of p) new ≡ later ++ (room ++ own)
    behind = back (count_of p) now (later ++ (room ++ own)) now_many

    two : later_words p new ≡ later
    two = ap (take (count_of p)) behind ∙ front (count_of p) later (room ++ own) later_many

    past : drop (count_of p) (drop (count_of p) new) ≡ room ++ own
    past = ap (drop (count_of p)) behind ∙ back (count_of p) later (room ++ own) later_many

    three : room_words p new ≡ room
    three = ap (take (count_of p)) past ∙ front (count_of p) room own room_many

    rest : own_words p new ≡ own
    rest = ap (drop (count_of p)) past ∙ back (count_of p) room own room_many

    parted : (xs : List Bits) → replaced p xs (now_words p xs) (later_words p xs) (room_words p xs) ≡ xs
    parted xs =
        ap (λ ys. now_words p xs ++ (later_words p xs ++ ys)) (take-append-drop (count_of p) (drop (count_of p) (drop (count_of p) xs)))
        ∙ ap (λ ys. now_words p xs ++ ys) (take-append-drop (count_of p) (drop (count_of p) xs))
        ∙ take-append-drop (count_of p) xs

    many : (a b c : List Bits)
        → map width_of (replaced p cells a b c) ≡ map width_of a ++ (map width_of b ++ (map width_of c ++ map width_of own))
    many a b c =
        map-append width_of a (b ++ (c ++ own))
        ∙ ap (λ ys. map width_of a ++ ys) (map-append width_of b (c ++ own))
        ∙ ap (λ ys. map width_of a ++ (map width_of b ++ ys)) (map-append width_of c own)

    widths : map width_of new ≡ p.widths
    widths =
        many now later room
        ∙ ap (λ ws. ws ++ (map width_of later ++ (map width_of room ++ map width_of own)))
        (first.widths ∙ sym (words-now p cells sound are.widths).widths)
        ∙ ap (λ ws. map width_of (now_words p cells) ++ (ws ++ (map width_of room ++ map width_of own)))
        (second.widths ∙ sym (words-later p cells sound are.widths).widths)
        ∙ ap (λ ws. map width_of (now_words p cells) ++ (map width_of (later_words p cells) ++ (ws ++ map width_of own)))
        (third.widths ∙ sym (words-room p cells sound are.widths).widths)
        ∙ sym (many (now_words p cells) (later_words p cells) (room_words p cells))
        ∙ ap (map width_of) (parted cells)
        ∙ are.widths

    same : (c : ℕ) → count_of p + count_of p + count_of p ≤ c → valuation_of new c ≡ valuation_of cells c
    same c high = far new ∙ ap (λ xs. valuation_of xs (c - count_of p - count_of p - count_of p)) rest ∙ sym (far cells)
      where
        far : (xs : List Bits) → valuation_of xs c ≡ valuation_of (own_words p xs) (c - count_of p - count_of p - count_of p)
        far xs = sym (ap (λ V. V (c - count_of p - count_of p - count_of p))
            (valuation-drop (count_of p) (drop (count_of p) (drop (count_of p) xs)))
            ∙ ap (λ V. V (count_of p + (c - count_of p - count_of p - count_of p))) (valuation-drop (count_of p) (drop (count_of p) xs))
            ∙ ap (λ V. V (count_of p + (count_of p + (c - count_of p - count_of p - count_of p)))) (valuation-drop (count_of p) xs)
            ∙ ap (valuation_of xs) (omega arith))

    differ : true ≡ false → ⊥
    differ e = absurd cc

    held : (c w : ℕ) → slice_get p.fixed c ≡ Some true → slice_get p.values c ≡ Some w
        → number (width_in p.widths c) (valuation_of new c) ≡ w
    held c w fixed is = elim (cases_lt c (count_of p + count_of p + count_of p)) [
      | inl low ↦ absurd (differ (Some-same (sym fixed ∙ sound.signals c low)))
      | inr high ↦ ap (number (width_in p.widths c)) (same c high) ∙ are.constants.constants c w fixed is
    ]

-- where the room stays too
pub two-replaced : (p : Program) (cells now later last now' later' : List Bits) → IsSound p → AreCells p cells
    → ArePieces p cells now later last
    → AreWordsOf (signals_of p) now' → AreWordsOf (signals_of p) later'
    → AreReplaced p (now' ++ (later' ++ last)) now' later' (room_words p cells)
two-replaced p cells now later last now' later' sound are pieces first second =
    subst (λ xs. AreReplaced p (now' ++ (later' ++ xs)) now' later' (room_words p cells))
    (take-append-drop (count_of p) (drop (count_of p) (drop (count_of p) cells)) ∙ sym pieces.last)
    (replaced-left p cells now' later' (room_words p cells) sound are first second (words-room p cells sound are.widths))

pub three-replaced : (p : Program) (cells now later room own : List Bits) → IsSound p → AreCells p cells → own ≡ own_words p cells
    → AreWordsOf (signals_of p) now → AreWordsOf (signals_of p) later → AreWordsOf (signals_of p) room
    → AreReplaced p (now ++ (later ++ (room ++ own))) now later room
three-replaced p cells now later room own sound are is first second third =
    subst (λ xs. AreReplaced p (now ++ (later ++ (room ++ xs))) now later room) (sym is)
    (replaced-left p cells now later room sound are first second third)

-- ---- three splits
-- the pieces that splits give: words of the signals, and what they hold
pub record AreParts (p : Program) (cells now later room own : List Bits) : Type 0 where
  pub now_fit : AreWordsOf (signals_of p) now
  pub later_fit : AreWordsOf (signals_of p) later
  pub room_fit : AreWordsOf (signals_of p) room
  pub now_is : valuation_of now ≡ now_in p (valuation_of cells)
  pub later_is : valuation_of later ≡ later_in p (valuation_of cells)
  pub room_is : valuation_of room ≡ room_in p (valuation_of cells)
  pub own_is : own ≡ own_words p cells

pub parts-of : (p : Program) (cells now rest later last room own : List Bits) (n : ℕ) → IsSound p → AreCells p cells
    → n ≡ count_of p → now ≡ take n cells
    → rest ≡ drop n cells → later ≡ take n rest → last ≡ drop n rest → room ≡ take n last → own ≡ drop n last
    → AreParts p cells now later room own
parts-of p cells now rest later last room own n sound are same one behind two end three own_end =
    let pieces = pieces-of p cells now rest later last n same one behind two end in
    let in_room = pieces-room p cells now later last room n same pieces three in
    record {
      now_fit = pieces-now p cells now later last sound are pieces;
      later_fit = pieces-later p cells now later last sound are pieces;
      room_fit = subst (AreWordsOf (signals_of p)) (sym in_room) (words-room p cells sound are.widths);
      now_is = ap valuation_of pieces.now ∙ now-valuation p cells;
      later_is = ap valuation_of pieces.later ∙ later-valuation p cells;
      room_is = ap valuation_of in_room ∙ room-valuation p cells;
      own_is = pieces-own p cells now later last own n same pieces own_end;
    }

-- and two
pub record AreHalves (p : Program) (cells now later last : List Bits) : Type 0 where
  pub now_fit : AreWordsOf (signals_of p) now
  pub later_fit : AreWordsOf (signals_of p) later
  pub now_is : valuation_of now ≡ now_in p (valuation_of cells)
  pub later_is : valuation_of later ≡ later_in p (valuation_of cells)
  pub pieces : ArePieces p cells now later last

pub halves-of : (p : Program) (cells now rest later last : List Bits) (n : ℕ) → IsSound p → AreCells p cells → n ≡ count_of p
    → now ≡ take n cells
    → rest ≡ drop n cells → later ≡ take n rest → last ≡ drop n rest → AreHalves p cells now later last
halves-of p cells now rest later last n sound are same one behind two end =
    let pieces = pieces-of p cells now rest later last n same one behind two end in
    record {
      now_fit = pieces-now p cells now later last sound are pieces;
      later_fit = pieces-later p cells now later last sound are pieces;
      now_is = ap valuation_of pieces.now ∙ now-valuation p cells;
      later_is = ap valuation_of pieces.later ∙ later-valuation p cells;
      pieces = pieces;
    }

-- ---- bits past a signal's width
pub now-narrow : (p : Program) (cells : List Bits) → IsSound p → AreCells p cells → (s b : ℕ) → width_at (signals_of p) s ≤ b
    → now_in p (valuation_of cells) s b ≡ false
now-narrow p cells sound are s b high =
    sym (ap (λ (V : Valuation). V s b) (now-valuation p cells))
    ∙ valuation-high (signals_of p) (now_words p cells) s b (words-now p cells sound are.widths) high

pub later-narrow : (p : Program) (cells : List Bits) → IsSound p → AreCells p cells → (s b : ℕ)
    → width_at (signals_of p) s ≤ b → later_in p (valuation_of cells) s b ≡ false
later-narrow p cells sound are s b high =
    sym (ap (λ (V : Valuation). V s b) (later-valuation p cells))
    ∙ valuation-high (signals_of p) (later_words p cells) s b (words-later p cells sound are.widths) high
