-- Notes of what places read, as they are made.
use Rattle.std.proofs.Common.{ℕ, ◌≡◌, ◌<◌, ◌+◌, Bool, true, false, ◌&&◌, ◌||◌, List, [], ◌∷◌, ◌++◌, length, get_or, take, Result, Ok, Err, refl, sym, ◌∙◌, ap, subst, arith}
use Rattle.std.specs.Prelude.{OnOk, IfSome, ◌==◌, nat_lt, ℤ, Option, Some, None, option_map, slice_get}
use Rattle.std.specs.Option.{option_map_or, option_and_then}
use Rattle.std.specs.List.{list_any}
use Rattle.std.proofs.lemmas.Bool.Decides.{nat_tests}
use Rattle.std.proofs.lemmas.List.Folds.{list_any-append}
use Rattle.loc_base.specs.declared.memory.NoMemory.{NoMemory}
use Rattle.loc_base.proofs.ShelfLists.{take-at}
use Rattle.loc_base.proofs.ShelfBools.{or-false, or-assoc, and-assoc, and-false}
use Rattle.design_core.specs.declared.signal.Signal.{Signal}
use Rattle.design_core.specs.declared.expression.Typed.{Typed}
use denote.Hole.Carrier.{hidden}
use Rattle.design_core.specs.declared.expression.Node.{Node}
use Rattle.design_core.specs.declared.expression.Node.TheVariants as node
use Rattle.design_core.specs.declared.expression.Node.TheBlock.{shape-the_row-Typed-0, hidden-the_row-Typed-0}
use Rattle.loc_base.specs.declared.bits.Bits.{Bits}
use Rattle.loc_base.specs.Bits.{width_of, value_of}
use Rattle.design_core.specs.Constant.{constant_of}
use Rattle.design_core.specs.Operator.{integer_of}
use Rattle.design_core.specs.Pick.{has_bit, may_pick}
use Rattle.design_core.specs.Valuation.{width_at, position_at, position_of}
use Rattle.design_core.specs.Drives.{is_among}
use Rattle.design_core.specs.Reads.{reads}
use Rattle.design_bits.specs.Operands.{own_reads, operands_read}
use Rattle.design_bits.proofs.ReadSteps.{node-splits}
use Rattle.place_functions.specs.declared.note.Note.{Note}
use Rattle.place_functions.specs.Notes.{note_has, notes_have, of_place, AddsNotes}

-- nothing was added
pub notes-none : (a : List Note) (t : ℕ → ℕ → ℕ → Bool) → ((p s b : ℕ) → t p s b ≡ false) → AddsNotes a a t
notes-none a t none = record { bits = λ p s b. sym (ap (λ x. notes_have a p s b || x) (none p s b) ∙ or-false (notes_have a p s b)) }

-- one note
pub notes-push : (a : List Note) (note : Note) → AddsNotes a (a ++ note ∷ []) (λ p s b. note_has p s b note)
notes-push a note =
    record {
      bits = λ p s b.
          list_any-append (note_has p s b) a (note ∷ []) ∙ ap (λ x. notes_have a p s b || x) (or-false (note_has p s b note));
    }

pub ruleset notes_pushed = (notes-push)

pub one-signal : (signal s : ℕ) → is_among signal 1 s ≡ (s == signal)
one-signal signal s = grind (arith, nat_tests)

pub one-has : (place signal from width p s b : ℕ) (note : Note) → note ≡ record { place = place; first = signal; count = 1; from = from; width = width }
    → note_has p s b note ≡ of_place place (λ s b. s == signal && is_among from width b) p s b
one-has place signal from width p s b note is =
    ap (note_has p s b) is ∙ ap (λ x. ((place == p) && x) && is_among from width b) (one-signal signal s)
    ∙ and-assoc (place == p) (s == signal) (is_among from width b)

pub ruleset notes_of_one = (one-has, one-signal)

-- what a word of an array reads itself
pub own_word : (signals : List Signal) (s b width first count : ℕ) (low : ℤ) (index : Typed) (from size : ℕ)
    → own_reads signals s b width (node.Word first count low index from size) ≡ (is_among first count s && is_among from size b)
unfolding shape-the_row-Typed-0 hidden-the_row-Typed-0 hidden
own_word signals s b width first count low index from size = refl

-- the lowest bits
pub whole-among : (width b : ℕ) → is_among 0 width b ≡ nat_lt b width
whole-among width b = grind (arith, nat_tests)

-- one addition after another
pub notes-both : (a b c : List Note) (t u : ℕ → ℕ → ℕ → Bool) → AddsNotes a b t → AddsNotes b c u → AddsNotes a c (λ p s k. t p s k || u p s k)
notes-both a b c t u one other =
    record {
      bits = λ p s k.
          other.bits p s k ∙ ap (λ x. x || u p s k) (one.bits p s k) ∙ or-assoc (notes_have a p s k) (t p s k) (u p s k);
    }

-- what is added, said in another way
pub notes-same : (a b : List Note) (t u : ℕ → ℕ → ℕ → Bool) → AddsNotes a b t → ((p s k : ℕ) → t p s k ≡ u p s k) → AddsNotes a b u
notes-same a b t u one same = record { bits = λ p s k. one.bits p s k ∙ ap (λ x. notes_have a p s k || x) (same p s k) }

pub spread : (q t u : Bool) → ((q && t) || (q && u)) ≡ (q && (t || u))
spread true t u = refl
spread false t u = refl

-- of one place
pub place-both : (a b c : List Note) (place : ℕ) (t u : ℕ → ℕ → Bool) → AddsNotes a b (of_place place t) → AddsNotes b c (of_place place u)
    → AddsNotes a c (of_place place (λ s k. t s k || u s k))
place-both a b c place t u one other =
    notes-same a c (λ p s k. of_place place t p s k || of_place place u p s k) (of_place place (λ s k. t s k || u s k))
    (notes-both a b c (of_place place t) (of_place place u) one other) (λ p s k. spread (place == p) (t s k) (u s k))

pub place-named : (a b : List Note) (place : ℕ) (t u : ℕ → ℕ → Bool) → AddsNotes a b (of_place place t) → ((s k : ℕ) → t s k ≡ u s k)
    → AddsNotes a b (of_place place u)
place-named a b place t u one same =
    notes-same a b (of_place place t) (of_place place u) one (λ p s k. ap (λ x. (place == p) && x) (same s k))

pub place-none : (a : List Note) (place : ℕ) (t : ℕ → ℕ → Bool) → ((s k : ℕ) → t s k ≡ false) → AddsNotes a a (of_place place t)
place-none a place t none = notes-none a (of_place place t) (λ p s k. ap (λ x. (place == p) && x) (none s k) ∙ and-false (place == p))

-- what a node reads itself, and then what its operands read
pub node-noted : (a b c : List Note) (place : ℕ) (signals : List Signal) (e : Typed)
    → AddsNotes a b (of_place place (λ s k. own_reads signals s k e.width e.node)) → AddsNotes b c (of_place place (λ s k. operands_read signals s k e.node))
    → AddsNotes a c (of_place place (λ s k. reads signals s k e))
node-noted a b c place signals e one other =
    place-named a c place (λ s k. own_reads signals s k e.width e.node || operands_read signals s k e.node) (λ s k. reads signals s k e)
    (place-both a b c place (λ s k. own_reads signals s k e.width e.node) (λ s k. operands_read signals s k e.node) one other)
    (λ s k. sym (node-splits signals s k e.width e.node))

-- what is told of a want of memory too
pub on-ok : (r : Result (Unit {0}) NoMemory) (P Q : Type 0) → (P → Q) → OnOk r P → OnOk r Q
on-ok (Ok v) P Q f h = f h
on-ok (Err e) P Q f h = h

-- what is told of a part of a signal
pub of-picked : (a b : List Note) (picked place : ℕ) (t u : ℕ → ℕ → Bool) (r : Result (Unit {0}) NoMemory) → picked ≡ place → ((s k : ℕ) → t s k ≡ u s k)
    → OnOk r (AddsNotes a b (of_place picked t)) → OnOk r (AddsNotes a b (of_place place u))
of-picked a b picked place t u r is same ok =
    on-ok r (AddsNotes a b (of_place picked t)) (AddsNotes a b (of_place place u))
    (λ one. place-named a b place t u (subst (λ q. AddsNotes a b (of_place q t)) is one) same) ok

-- what one operand reads
pub one-operand : (a b : List Note) (place : ℕ) (signals : List Signal) (n : Node) (arg given : Typed) (r : Result (Unit {0}) NoMemory) → given ≡ arg
    → ((s k : ℕ) → operands_read signals s k n ≡ reads signals s k arg) → OnOk r (AddsNotes a b (of_place place (λ s k. reads signals s k given)))
    → OnOk r (AddsNotes a b (of_place place (λ s k. operands_read signals s k n)))
one-operand a b place signals n arg given r same is ok =
    on-ok r (AddsNotes a b (of_place place (λ s k. reads signals s k given))) (AddsNotes a b (of_place place (λ s k. operands_read signals s k n)))
    (λ one. place-named a b place (λ s k. reads signals s k given) (λ s k. operands_read signals s k n) one (λ s k. ap (reads signals s k) same ∙ sym (is s k)))
    ok

-- what one element more of a list adds
pub each-more : {X : Type 0} (a b c : List Note) (t : X → ℕ → ℕ → ℕ → Bool) (xs : List X) (i : ℕ) (x : X) → i < length xs → x ≡ get_or xs i x
    → AddsNotes a b (λ p s k. list_any (λ y. t y p s k) (take i xs)) → AddsNotes b c (λ p s k. t x p s k)
    → AddsNotes a c (λ p s k. list_any (λ y. t y p s k) (take (i + 1) xs))
each-more a b c t xs i x below is before one =
    notes-same a c (λ p s k. list_any (λ y. t y p s k) (take i xs) || t x p s k) (λ p s k. list_any (λ y. t y p s k) (take (i + 1) xs))
    (notes-both a b c (λ p s k. list_any (λ y. t y p s k) (take i xs)) (t x) before one)
    (λ p s k.
    sym (ap (list_any (λ y. t y p s k)) (take-at xs i x below is) ∙ list_any-append (λ y. t y p s k) (take i xs) (x ∷ [])
    ∙ ap (λ v. list_any (λ y. t y p s k) (take i xs) || v) (or-false (t x p s k))))

-- and of a list of expressions of one place
pub each-read : (a b c : List Note) (place : ℕ) (t : Typed → ℕ → ℕ → Bool) (xs : List Typed) (i : ℕ) (x : Typed) → i < length xs → x ≡ get_or xs i x
    → AddsNotes a b (of_place place (λ s k. list_any (λ y. t y s k) (take i xs))) → AddsNotes b c (of_place place (λ s k. t x s k))
    → AddsNotes a c (of_place place (λ s k. list_any (λ y. t y s k) (take (i + 1) xs)))
each-read a b c place t xs i x below is before one =
    place-named a c place (λ s k. list_any (λ y. t y s k) (take i xs) || t x s k) (λ s k. list_any (λ y. t y s k) (take (i + 1) xs))
    (place-both a b c place (λ s k. list_any (λ y. t y s k) (take i xs)) (t x) before one)
    (λ s k.
    sym (ap (list_any (λ y. t y s k)) (take-at xs i x below is) ∙ list_any-append (λ y. t y s k) (take i xs) (x ∷ [])
    ∙ ap (λ v. list_any (λ y. t y s k) (take i xs) || v) (or-false (t x s k))))

-- ---- a part of a signal by an index

-- the position that an index has in a signal that is there, and in one that isn't
pub position-there : (signals : List Signal) (signal : ℕ) (declared : Signal) (index : ℤ) (found : Option ℕ) → slice_get signals signal ≡ Some declared
    → found ≡ position_of declared index → found ≡ position_at signals signal index
position-there signals signal declared index found there is = is ∙ sym (ap (option_and_then (λ s. position_of s index)) there)

pub position-none : (signals : List Signal) (signal : ℕ) (index : ℤ) (found : Option ℕ) → slice_get signals signal ≡ None → found ≡ None
    → found ≡ position_at signals signal index
position-none signals signal index found none is = is ∙ sym (ap (option_and_then (λ s. position_of s index)) none)

-- by an index that is a constant, the bits that it has with one of the offsets
pub pick-constant : (signals : List Signal) (signal : ℕ) (index : Typed) (offsets : List ℤ) (b : ℕ) (word : Bits) (found : Option Bits) → found ≡ Some word
    → option_map value_of found ≡ constant_of index.width index.node → IfSome found (λ w. width_of w ≡ index.width)
    → has_bit signals signal (integer_of index.signed (width_of word) (value_of word)) offsets b
    ≡ may_pick signals signal index.width index.signed index.node offsets b
pick-constant signals signal index offsets b word None there value width = cc
pick-constant signals signal index offsets b word (Some w) there value width =
    let same : w ≡ word = inner there in
    ap (λ x. has_bit signals signal (integer_of index.signed (width_of x) (value_of x)) offsets b) (sym same)
    ∙ ap (λ n. has_bit signals signal (integer_of index.signed n (value_of w)) offsets b) width
    ∙ ap (λ o. option_map_or (λ v. has_bit signals signal (integer_of index.signed index.width v) offsets b) o (nat_lt b (width_at signals signal))) value
  where
    inner : Some w ≡ Some word → w ≡ word
    inner e = cc

-- by another one perhaps each bit
pub pick-other : (signals : List Signal) (signal : ℕ) (index : Typed) (offsets : List ℤ) (b : ℕ) (found : Option Bits) → found ≡ None
    → option_map value_of found ≡ constant_of index.width index.node
    → nat_lt b (width_at signals signal) ≡ may_pick signals signal index.width index.signed index.node offsets b
pick-other signals signal index offsets b found none value =
    ap (λ o. option_map_or (λ v. has_bit signals signal (integer_of index.signed index.width v) offsets b) o (nat_lt b (width_at signals signal)))
    (sym (ap (option_map value_of) none) ∙ value)
