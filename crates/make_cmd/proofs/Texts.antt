-- The writes of the made texts.
use Rattle.std.proofs.Common.{ℕ, ◌≡◌, List, ◌++◌, refl, subst, Err}
use Rattle.command_contract.specs.Contract.{Texts}
use Rattle.write_order.specs.declared.write.WriteErr.{WriteErr}
use Rattle.write_order.specs.declared.write.WriteErr.TheVariants.{Failed, NoMemory}
use Rattle.write_order.specs.Writes.{AreBegun, AreDone, Leaves, Outputs, StopsIn, Write, on_shelf}
use Rattle.write_order.proofs.Carried.{begun-within, stops-within}
use Rattle.make_cmd.specs.declared.made_shelf.MadeShelf.{MadeShelf}
use Rattle.requests.specs.Asked.{MakeAsked}
use Rattle.make_cmd.specs.Making.{made_texts, made_writes}
use Rattle.make_cmd.specs.Shelves.{IsMadeBy, texts_of, texts_writes}

-- some writes, of which the first failed or wanted memory, before others that were due
pub error-within : (first next : List Write) (was is : Texts) (printed : List ℕ) (error : WriteErr)
    → Leaves {X = Unit {0}} first (on_shelf was is printed) (Err error)
    → Leaves {X = Unit {0}} (first ++ next) (on_shelf was is printed) (Err error)
error-within first next was is printed Failed left = stops-within first next (on_shelf was is printed) left
error-within first next was is printed NoMemory left = begun-within first next (on_shelf was is printed) left

-- ---- by what is asked
-- the shelf of the made texts holds them under their names, and its writes are those of both
pub writes-of : (asked : MakeAsked) (shelf : MadeShelf) → IsMadeBy asked shelf → texts_writes shelf ≡ made_writes asked
writes-of asked shelf is = cc (is.design_name, is.design, is.trace_name, is.trace)

-- so what is left of them is said of the made writes
pub stops-made : (asked : MakeAsked) (shelf : MadeShelf) → IsMadeBy asked shelf → (o : Outputs) → StopsIn (texts_writes shelf) o
    → StopsIn (made_writes asked) o
stops-made asked shelf is o stops = subst (λ (ws : List Write). StopsIn ws o) (writes-of asked shelf is) stops

pub begun-made : (asked : MakeAsked) (shelf : MadeShelf) → IsMadeBy asked shelf → (o : Outputs) → AreBegun (texts_writes shelf) o
    → AreBegun (made_writes asked) o
begun-made asked shelf is o begun = subst (λ (ws : List Write). AreBegun ws o) (writes-of asked shelf is) begun

pub done-made : (asked : MakeAsked) (shelf : MadeShelf) → IsMadeBy asked shelf → (o : Outputs) → AreDone (texts_writes shelf) o
    → AreDone (made_writes asked) o
done-made asked shelf is o done = subst (λ (ws : List Write). AreDone ws o) (writes-of asked shelf is) done

pub texts-of : (asked : MakeAsked) (shelf : MadeShelf) → IsMadeBy asked shelf → texts_of shelf ≡ made_texts asked
texts-of asked shelf is =
    rw (is.design_name, is.design, is.trace_name, is.trace) refl
