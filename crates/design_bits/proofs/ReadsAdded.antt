-- Bits that expressions read, but for those of another set, as they are added.
use Rattle.std.proofs.Common.{ℕ, ◌≡◌, ◌<◌, ◌+◌, List, [], ◌∷◌, length, get_or, take, Result, Bool, sym, ◌∙◌, ap}
use Rattle.std.specs.Prelude.{OnOk, not, ◌&&◌, ◌||◌}
use Rattle.std.specs.List.{list_any}
use Rattle.std.proofs.lemmas.List.Folds.{list_any-append}
use Rattle.loc_base.specs.declared.memory.NoMemory.{NoMemory}
use Rattle.loc_base.proofs.ShelfLists.{take-at}
use Rattle.loc_base.proofs.ShelfBools.{and-or, or-false}
use Rattle.design_core.specs.declared.signal.Signal.{Signal}
use Rattle.design_core.specs.declared.expression.Typed.{Typed}
use Rattle.design_core.specs.declared.expression.Node.{Node}
use Rattle.design_core.specs.Reads.{reads}
use Rattle.design_bits.specs.declared.region.Region.{Region}
use Rattle.design_bits.specs.Regions.{region_has}
use Rattle.design_bits.specs.Masks.{Adds, has}
use Rattle.design_bits.specs.Operands.{own_reads, operands_read}
use Rattle.design_bits.proofs.Added.{adds-both, adds-same, on-ok}
use Rattle.design_bits.proofs.ReadSteps.{node-splits}

-- one addition after another, each but for the bits of a set
pub adds-beside : (a b c sure : List ℕ) (t u : ℕ → ℕ → Bool) → Adds a b (λ s k. t s k && not (has sure s k)) → Adds b c (λ s k. u s k && not (has sure s k))
    → Adds a c (λ s k. (t s k || u s k) && not (has sure s k))
adds-beside a b c sure t u one other =
    adds-same a c (λ s k. (t s k && not (has sure s k)) || (u s k && not (has sure s k))) (λ s k. (t s k || u s k) && not (has sure s k))
    (adds-both a b c (λ s k. t s k && not (has sure s k)) (λ s k. u s k && not (has sure s k)) one other)
    (λ s k _ _. sym (and-or (t s k) (u s k) (not (has sure s k))))

-- what is added but for the bits of a set, said in another way
pub adds-named : (a b sure : List ℕ) (t u : ℕ → ℕ → Bool) → Adds a b (λ s k. t s k && not (has sure s k)) → ((s k : ℕ) → k < 128 → t s k ≡ u s k)
    → Adds a b (λ s k. u s k && not (has sure s k))
adds-named a b sure t u one same =
    adds-same a b (λ s k. t s k && not (has sure s k)) (λ s k. u s k && not (has sure s k)) one (λ s k _ within. ap (λ x. x && not (has sure s k)) (same s k within))

-- what a node reads itself, and then what its operands read
pub node-added : (a b c sure : List ℕ) (signals : List Signal) (region : Region) (e : Typed)
    → ((s k : ℕ) → k < 128 → region_has region s k ≡ own_reads signals s k e.width e.node)
    → Adds a b (λ s k. region_has region s k && not (has sure s k)) → Adds b c (λ s k. operands_read signals s k e.node && not (has sure s k))
    → Adds a c (λ s k. reads signals s k e && not (has sure s k))
node-added a b c sure signals region e is one other =
    adds-named a c sure (λ s k. region_has region s k || operands_read signals s k e.node) (λ s k. reads signals s k e)
    (adds-beside a b c sure (λ s k. region_has region s k) (λ s k. operands_read signals s k e.node) one other)
    (λ s k within. ap (λ x. x || operands_read signals s k e.node) (is s k within) ∙ sym (node-splits signals s k e.width e.node))

-- what one operand reads
pub one-operand : (a b sure : List ℕ) (signals : List Signal) (n : Node) (arg given : Typed) (r : Result (Unit {0}) NoMemory) → given ≡ arg
    → ((s k : ℕ) → operands_read signals s k n ≡ reads signals s k arg) → OnOk r (Adds a b (λ s k. reads signals s k given && not (has sure s k)))
    → OnOk r (Adds a b (λ s k. operands_read signals s k n && not (has sure s k)))
one-operand a b sure signals n arg given r same is ok =
    on-ok r (Adds a b (λ s k. reads signals s k given && not (has sure s k))) (Adds a b (λ s k. operands_read signals s k n && not (has sure s k)))
    (λ one. adds-named a b sure (λ s k. reads signals s k given) (λ s k. operands_read signals s k n) one (λ s k _. ap (reads signals s k) same ∙ sym (is s k)))
    ok

-- what one element more of a list adds
pub each-more : {X : Type 0} (a b c sure : List ℕ) (t : X → ℕ → ℕ → Bool) (xs : List X) (i : ℕ) (x : X) → i < length xs → x ≡ get_or xs i x
    → Adds a b (λ s k. list_any (λ y. t y s k) (take i xs) && not (has sure s k)) → Adds b c (λ s k. t x s k && not (has sure s k))
    → Adds a c (λ s k. list_any (λ y. t y s k) (take (i + 1) xs) && not (has sure s k))
each-more a b c sure t xs i x below is before one =
    adds-named a c sure (λ s k. list_any (λ y. t y s k) (take i xs) || t x s k) (λ s k. list_any (λ y. t y s k) (take (i + 1) xs))
    (adds-beside a b c sure (λ s k. list_any (λ y. t y s k) (take i xs)) (λ s k. t x s k) before one)
    (λ s k _.
    sym (ap (list_any (λ y. t y s k)) (take-at xs i x below is) ∙ list_any-append (λ y. t y s k) (take i xs) (x ∷ [])
    ∙ ap (λ v. list_any (λ y. t y s k) (take i xs) || v) (or-false (t x s k))))
