-- Writes behind others, where the first of them failed or was wanting, and where all were carried out.
use Rattle.std.proofs.Common.{◌≡◌, ℕ, zero, suc, ◌<◌, Bool, true, false, List, [], ◌∷◌, ◌++◌}
use Rattle.std.proofs.Common.{length, take, drop, Some, None, Result, Ok, Err, refl, subst, arith}
use Rattle.std.specs.Prelude.{OnOk, ◌&&◌}
use Rattle.write_order.specs.declared.write.WriteErr.{WriteErr}
use Rattle.write_order.specs.declared.write.WriteErr.TheVariants.{Failed, NoMemory}
use Rattle.clause_base.specs.declared.log.Step.{Step}
use Rattle.design_core.specs.declared.values.SetWithValues.{SetWithValues}
use Rattle.log_portions.specs.Portions.{steps_text}
use Rattle.debug_core.specs.Debugging.{FindsSet, IsDebugger, Searches}
use Rattle.list_writer.specs.declared.stop.Stop.{Stop}
use Rattle.list_writer.specs.declared.stop.Stop.TheVariants as stop
use Rattle.list_writer.specs.Due.{set_writes}
use Rattle.list_writer.specs.Going.{IsTurn, Turn, portion_of, takes, writing}
use Rattle.list_writer.specs.Stops.{stopped}
use Rattle.write_order.specs.Writes.{AreBegun, AreDone, Leaves, Outputs, Write, put_piece}
use Rattle.write_order.proofs.Carried.{begun-within, stops-within}

-- where the first of some writes weren't carried out, more of them were due
pub leaves-within : (first next : List Write) (o : Outputs) (e : WriteErr) → Leaves {X = Unit {0}} first o (Err e)
    → Leaves {X = Unit {0}} (first ++ next) o (Err e)
leaves-within first next o Failed stop = stops-within first next o stop
leaves-within first next o NoMemory begun = begun-within first next o begun

-- one write for which memory was wanted isn't carried out
pub none-of-one : (write : Write) (o : Outputs) → AreBegun (write ∷ []) o → AreDone [] o
none-of-one write o begun = at begun.count begun.within begun.done
  where
    at : (count : ℕ) → count < 1 → AreDone (take count (write ∷ [])) o → AreDone [] o
    at zero few done = done
    at (suc count) few done = absurd (omega (arith, few))

-- the steps are those of a log
pub at-log : (name : List ℕ) (before : ℕ) (there log : List Step) (o : Outputs) (r : Result (Unit {0}) WriteErr) → there ≡ log
    → Leaves (put_piece name (steps_text (drop before there)) ∷ []) o r → Leaves (put_piece name (steps_text (drop before log)) ∷ []) o r
at-log name before there log o r same leaves =
    subst (λ (steps : List Step). Leaves (put_piece name (steps_text (drop before steps)) ∷ []) o r) same leaves

-- both tell
pub both : (a b : Bool) → (a && b) ≡ true → (a ≡ true) × (b ≡ true)
both true true e = (refl, refl)
both true false e = absurd (cc)
both false b e = absurd (cc)

-- ---- a turn in which a set was found
module _ (t : Turn) (set : SetWithValues) (holds : IsDebugger t.new) (searches : Searches t.old t.new t.left t.now_left)
    (finds : FindsSet t.old t.new set) where
  pub set-fails : (r : Result (Unit {0}) WriteErr) (why : Stop) → stopped r (Some (length t.found)) ≡ Err why
      → (t.told ≡ true → Leaves (set_writes t.asked (portion_of t set)) t.o r) → IsTurn t (Err why)
  set-fails (Ok x) why is left = absurd (cc)
  set-fails (Err Failed) why is left =
      subst (λ (w : Stop). IsTurn t (Err w)) (cc) (failed)
    where
      failed : IsTurn t (Err stop.Failed)
      failed = record { holds = holds; searches = searches; answer = record { set = set; finds = finds; stops = left } }
  set-fails (Err NoMemory) why is left =
      subst (λ (w : Stop). IsTurn t (Err w)) (cc) (short)
    where
      short : IsTurn t (Err (stop.Memory (Some (length t.found))))
      short = record { holds = holds; searches = searches; answer = (refl, writing set finds left) }

  pub set-taken : (r : Result (Unit {0}) WriteErr) (x : Unit {0}) → stopped r (Some (length t.found)) ≡ Ok x
      → OnOk r (t.now_found ≡ t.found ++ set ∷ []) → OnOk r (t.now_steps ≡ length t.new.log)
      → (t.told ≡ true → Leaves (set_writes t.asked (portion_of t set)) t.o r) → IsTurn t (Ok None)
  set-taken (Ok y) x is kept steps left =
      record {
        holds = holds;
        searches = searches;
        answer = takes (record {
          set = set;
          finds = finds;
          kept = kept;
          steps_are = steps;
          done = left;
        });
      }
  set-taken (Err Failed) x is kept steps left = absurd (cc)
  set-taken (Err NoMemory) x is kept steps left = absurd (cc)
