-- What stands under the checkpoints' names from turn to turn.
use Rattle.std.proofs.Common.{◌≡◌, ◌⊎◌, inl, inr, ℕ, true, false, List, [], ◌∷◌, ◌++◌, length, take}
use Rattle.std.proofs.Common.{Option, Some, None, Result, Ok, Err, refl, ap, sym, ◌∙◌, subst, append_assoc}
use Rattle.std.proofs.lemmas.List.{append-nil}
use Rattle.std.proofs.lemmas.List.Elements.{All-append, All-cons, All-nil}
use Rattle.loc_base.proofs.ShelfOptions.{Some-same}
use Rattle.design_core.specs.declared.values.SetWithValues.{SetWithValues}
use Rattle.io_ports.specs.Faults.{FaultCounts, WriteRose}
use Rattle.command_contract.specs.Contract.{WriteFailed, counts_of}
use Rattle.report_doc.specs.declared.types.Ending.{Ending}
use Rattle.set_waves.specs.Writes.{text_writes}
use Rattle.write_order.specs.Writes.{AreBegun, AreDone, Leaves, Outputs, StopsIn, Write, WriteCause, on_shelf, text_behind}
use Rattle.write_order.specs.declared.write.WriteErr.{WriteErr}
use Rattle.write_order.specs.declared.write.WriteErr.TheVariants as write
use Rattle.list_writer.specs.Stops.{stopped}
use Rattle.write_order.proofs.Carried.{text_behind-append}
use Rattle.debug_core.specs.Debugging.{DebugState}
use Rattle.list_writer.specs.declared.outcome.Outcome.{Outcome}
use Rattle.list_writer.specs.declared.outcome.Outcome.TheVariants as outcome
use Rattle.list_writer.specs.declared.pair.Pair.{Pair}
use Rattle.list_writer.specs.declared.pair.Pair.TheVariants.{First}
use Rattle.list_writer.specs.declared.stop.Stop.{Stop}
use Rattle.list_writer.specs.declared.stop.Stop.TheVariants.{Failed, Memory}
use Rattle.list_writer.specs.Asked.{Asked, Session}
use Rattle.list_writer.specs.CheckpointNames.{beside, is_checkpoint, is_name, other}
use Rattle.list_writer.specs.Checkpoints.{AreFailed, AreFirst, AreMore, AreSaved, Checkpoint, CheckpointsStand, IsCheckpoint, IsOneMore}
use Rattle.list_writer.specs.Checkpoints.{all_writes, checkpoint_writes, pair_behind}
use Rattle.list_writer.specs.Going.{ShelfCauses, StopCauses}
use Rattle.list_writer.specs.Saving.{AreSoFar, IsSavable, Puts, SaveLeaves, SavedSoFar, SavingNow, StopsBehind, WriteLeaves}
use Rattle.list_writer.specs.Saving.{now_writes, outcome_of, saving_of}
use Rattle.list_writer.proofs.Beside.{IsOne, SomeAside, done-stays, names-failed, names-take, other-stays, same-beside}
use Rattle.list_writer.proofs.CheckpointNamed.{now-named}
use Rattle.list_writer.proofs.Paused.{OneNow}

abbrev Texts : Type 0
Texts = List ℕ → Option (List ℕ)

-- ---- one checkpoint more
pub all-push : (asked : Asked) (prefix : List ℕ) (pair : Pair) (made : List Checkpoint) (c : Checkpoint)
    → all_writes asked prefix pair (made ++ c ∷ []) ≡ all_writes asked prefix pair made ++ checkpoint_writes asked prefix (pair_behind pair made) c
all-push asked prefix pair [] c = append-nil (checkpoint_writes asked prefix pair c)
all-push asked prefix pair (d ∷ made) c =
    ap (λ (ws : List Write). checkpoint_writes asked prefix pair d ++ ws) (all-push asked prefix (other pair) made c)
    ∙ sym (append_assoc (checkpoint_writes asked prefix pair d) (all_writes asked prefix (other pair) made)
    (checkpoint_writes asked prefix (pair_behind (other pair) made) c))

pub pair-push : (pair : Pair) (made : List Checkpoint) (c : Checkpoint) → pair_behind pair (made ++ c ∷ []) ≡ other (pair_behind pair made)
pair-push pair [] c = refl
pair-push pair (d ∷ made) c = pair-push (other pair) made c

-- writes behind others
behind : (name : List ℕ) (first next : List Write) (was mid is : Option (List ℕ)) → mid ≡ text_behind name first was → is ≡ text_behind name next mid
    → is ≡ text_behind name (first ++ next) was
behind name first next was mid is before then =
    then ∙ ap (text_behind name next) before ∙ sym (text_behind-append name first next was)

-- what stands beside them stays behind a call that may make one
pub save-stays : (v : SavingNow) (r : Result (Unit {0}) Stop) → SaveLeaves v r → (name : List ℕ) → is_checkpoint v.asked.checkpoints name ≡ false
    → v.is name ≡ v.was name
save-stays v r leaves name isn't = at r leaves
  where
    named : (AreLeft : List Write → Outputs → Type 0) (puts : Puts v AreLeft) → is_name puts.prefix name ≡ false
    named AreLeft puts = ap (λ (c : Option (List ℕ)). is_checkpoint c name) (sym puts.asks) ∙ isn't

    stopped : (puts : Puts v StopsIn) → v.is name ≡ v.was name
    stopped puts =
        let stop : StopsIn (now_writes v.asked v.s v.found puts.prefix v.pair) (on_shelf v.was v.is []) = puts.left in
        stop.done.texts name
        ∙ other-stays puts.prefix name (take stop.count (now_writes v.asked v.s v.found puts.prefix v.pair) ++ stop.part) (v.was name) (named StopsIn puts)
        (names-failed (IsOne puts.prefix) (now_writes v.asked v.s v.found puts.prefix v.pair) (on_shelf v.was v.is []) stop
        (now-named puts.prefix v.asked v.s v.found v.pair))

    begun : (puts : Puts v AreBegun) → v.is name ≡ v.was name
    begun puts =
        let some : AreBegun (now_writes v.asked v.s v.found puts.prefix v.pair) (on_shelf v.was v.is []) = puts.left in
        some.done.texts name
        ∙ other-stays puts.prefix name (take some.count (now_writes v.asked v.s v.found puts.prefix v.pair)) (v.was name) (named AreBegun puts)
        (names-take (IsOne puts.prefix) some.count (now_writes v.asked v.s v.found puts.prefix v.pair)
        (now-named puts.prefix v.asked v.s v.found v.pair))

    at : (r : Result (Unit {0}) Stop) → SaveLeaves v r → v.is name ≡ v.was name
    at (Ok x) (inl stays) = stays.0.texts name
    at (Ok x) (inr done) =
        let puts : Puts v AreDone = done.0 in
        puts.left.texts name
        ∙ other-stays puts.prefix name (now_writes v.asked v.s v.found puts.prefix v.pair) (v.was name) (named AreDone puts)
        (now-named puts.prefix v.asked v.s v.found v.pair)
    at (Err Failed) puts = stopped puts
    at (Err (Memory sets)) (same, inl stays) = stays.texts name
    at (Err (Memory sets)) (same, inr puts) = begun puts

pub save-beside : (v : SavingNow) (r : Result (Unit {0}) Stop) → SaveLeaves v r → (name : List ℕ)
    → beside v.asked.checkpoints v.is name ≡ beside v.asked.checkpoints v.was name
save-beside v r leaves = same-beside v.asked.checkpoints v.was v.is (save-stays v r leaves)

-- ---- so far
pub none-saved : (checkpoints : Option (List ℕ)) (asked : Asked) (was : Texts) (pair : Pair) → pair ≡ First
    → SavedSoFar checkpoints asked was was pair
none-saved None asked was pair first = tt
none-saved (Some prefix) asked was pair first =
    record { made = []; each = All-nil (IsCheckpoint asked); turn = first; stand = λ name there. refl }

-- where the checkpoints' texts stay
pub saved-stays : (checkpoints : Option (List ℕ)) (asked : Asked) (was mid is : Texts) (pair : Pair) → SavedSoFar checkpoints asked was mid pair
    → ((name : List ℕ) → is_checkpoint checkpoints name ≡ true → is name ≡ mid name) → SavedSoFar checkpoints asked was is pair
saved-stays None asked was mid is pair saved same = tt
saved-stays (Some prefix) asked was mid is pair saved same = record {
  made = saved.made;
  each = saved.each;
  turn = saved.turn;
  stand = λ name there. same name there ∙ saved.stand name there;
}

-- writes under other names leave them
pub stay-aside : (checkpoints : Option (List ℕ)) (mid is : Texts) (printed now_printed : List ℕ)
    → SomeAside checkpoints (record { written = mid; now_written = is; printed = printed; now_printed = now_printed })
    → (name : List ℕ) → is_checkpoint checkpoints name ≡ true → is name ≡ mid name
stay-aside None mid is printed now_printed some name there = absurd (cc)
stay-aside (Some prefix) mid is printed now_printed some name there =
    done-stays mid is printed now_printed prefix some.writes some.aside some.done name there

-- behind one more that was put whole
module _ (asked : Asked) (s : DebugState) (found : List SetWithValues) (pair now_pair : Pair) (was mid is : Texts)
    (one : IsSavable asked s found → OneNow asked s found) where
  abbrev v : SavingNow
  v = saving_of asked s found pair now_pair mid is

  -- the prefix is the one that is asked for
  asked-prefix : (prefix other_prefix : List ℕ) → asked.checkpoints ≡ Some prefix → asked.checkpoints ≡ Some other_prefix → other_prefix ≡ prefix
  asked-prefix prefix other_prefix here there = Some-same (sym there ∙ here)

  more-saved : (prefix : List ℕ) → asked.checkpoints ≡ Some prefix → AreSoFar asked prefix was mid pair → Puts v AreDone → now_pair ≡ other pair
      → AreSoFar asked prefix was is now_pair
  more-saved prefix asks saved puts next =
      let o : OneNow asked s found = one puts.savable in
      let c : Checkpoint = o.checkpoint in
      record {
        made = saved.made ++ c ∷ [];
        each = All-append (IsCheckpoint asked) saved.made (c ∷ []) saved.each
            (All-cons (IsCheckpoint asked) c [] o.is (All-nil (IsCheckpoint asked)));
        turn = next ∙ ap other saved.turn ∙ sym (pair-push First saved.made c);
        stand = λ name there.
            behind name (all_writes asked prefix First saved.made) (checkpoint_writes asked prefix (pair_behind First saved.made) c) (was name) (mid name)
            (is name) (saved.stand name there)
            (puts.left.texts name
            ∙ ap (λ (p : List ℕ). text_behind name (now_writes asked s found p pair) (mid name)) (asked-prefix prefix puts.prefix asks puts.asks)
            ∙ ap (λ (ws : List Write). text_behind name ws (mid name)) (o.writes prefix pair)
            ∙ ap (λ (p : Pair). text_behind name (checkpoint_writes asked prefix p c) (mid name)) saved.turn)
            ∙ ap (λ (ws : List Write). text_behind name ws (was name)) (sym (all-push asked prefix First saved.made c));
      }

  -- behind a call that may make one
  pub saved-on : (checkpoints : Option (List ℕ)) → asked.checkpoints ≡ checkpoints → SavedSoFar checkpoints asked was mid pair
      → (x : Unit {0}) → SaveLeaves {X = Unit {0}} v (Ok x) → SavedSoFar checkpoints asked was is now_pair
  saved-on None asks saved x leaves = tt
  saved-on (Some prefix) asks saved x (inl (stays, same)) = record {
    made = saved.made;
    each = saved.each;
    turn = same ∙ saved.turn;
    stand = λ name there. stays.texts name ∙ saved.stand name there;
  }
  saved-on (Some prefix) asks saved x (inr (puts, next)) = more-saved prefix asks saved puts next

  -- one failed, or memory was wanted for it
  one-more : (prefix : List ℕ) → asked.checkpoints ≡ Some prefix → (AreLeft : List Write → Outputs → Type 0) (IsPart : List Write → List Write → Type 0)
      → (puts : Puts v AreLeft) → (done : List Write) → IsPart (now_writes asked s found puts.prefix pair) done
      → (saved : AreSoFar asked prefix was mid pair) → IsOneMore asked prefix (pair_behind First saved.made) IsPart done
  one-more prefix asks AreLeft IsPart puts done part saved =
      let o : OneNow asked s found = one puts.savable in
      record {
        checkpoint = o.checkpoint;
        is = o.is;
        part = subst (λ (p : Pair). IsPart (checkpoint_writes asked prefix p o.checkpoint) done) saved.turn
            (subst (λ (ws : List Write). IsPart ws done) (o.writes prefix pair)
            (subst (λ (p : List ℕ). IsPart (now_writes asked s found p pair) done) (asked-prefix prefix puts.prefix asks puts.asks) part));
      }

  ends-with : (prefix : List ℕ) (how : Outcome) (saved : AreSoFar asked prefix was mid pair) (done : List Write)
      → AreMore how asked prefix (pair_behind First saved.made) done → ((name : List ℕ) → is name ≡ text_behind name done (mid name))
      → AreSaved asked prefix was is how
  ends-with prefix how saved done more texts = record {
    made = saved.made;
    each = saved.each;
    more = done;
    is_more = more;
    stand = λ name there.
        behind name (all_writes asked prefix First saved.made) done (was name) (mid name) (is name) (saved.stand name there) (texts name);
  }

  pub saves-stopped : (checkpoints : Option (List ℕ)) → asked.checkpoints ≡ checkpoints → SavedSoFar checkpoints asked was mid pair → (why : Stop)
      → SaveLeaves {X = Unit {0}} v (Err why) → CheckpointsStand checkpoints asked was is (outcome_of (Err why))
  saves-stopped None asks saved why leaves = tt
  saves-stopped (Some prefix) asks saved Failed puts =
      let stop : StopsIn (now_writes asked s found puts.prefix pair) (on_shelf mid is []) = puts.left in
      let writes : List Write = now_writes asked s found puts.prefix pair in
      ends-with prefix outcome.Failed saved (take stop.count writes ++ stop.part)
      (inr (one-more prefix asks StopsIn (λ ws some. AreFirst ws some ⊎ AreFailed ws some) puts (take stop.count writes ++ stop.part)
      (inr (record {
        count = stop.count;
        failed = stop.failed;
        at = stop.at;
        part = stop.part;
        is_part = stop.is_part;
        are = refl;
      })) saved))
      stop.done.texts
  saves-stopped (Some prefix) asks saved (Memory sets) (same, inl stays) =
      ends-with prefix outcome.Memory saved [] (inl refl) stays.texts
  saves-stopped (Some prefix) asks saved (Memory sets) (same, inr puts) =
      let begun : AreBegun (now_writes asked s found puts.prefix pair) (on_shelf mid is []) = puts.left in
      let writes : List Write = now_writes asked s found puts.prefix pair in
      ends-with prefix outcome.Memory saved (take begun.count writes)
      (inr (one-more prefix asks AreBegun AreFirst puts (take begun.count writes) (begun.count, refl) saved))
      begun.done.texts

-- ---- a listing that ends otherwise
nothing-more : (asked : Asked) (prefix : List ℕ) (how : Outcome) (pair : Pair) → AreMore how asked prefix pair []
nothing-more asked prefix (outcome.Ended ending) pair = refl
nothing-more asked prefix outcome.Failed pair = inl refl
nothing-more asked prefix outcome.Memory pair = inl refl

pub saves-ended : (checkpoints : Option (List ℕ)) (asked : Asked) (was is : Texts) (pair : Pair) (how : Outcome)
    → SavedSoFar checkpoints asked was is pair → CheckpointsStand checkpoints asked was is how
saves-ended None asked was is pair how saved = tt
saves-ended (Some prefix) asked was is pair how saved = record {
  made = saved.made;
  each = saved.each;
  more = [];
  is_more = nothing-more asked prefix how (pair_behind First saved.made);
  stand = λ name there.
      saved.stand name there ∙ ap (λ (ws : List Write). text_behind name ws (was name)) (sym (append-nil (all_writes asked prefix First saved.made)));
}

-- before and behind it the checkpoints' texts stay
pub stand-between : (checkpoints : Option (List ℕ)) (asked : Asked) (first was is now : Texts) (how : Outcome)
    → ((name : List ℕ) → is_checkpoint checkpoints name ≡ true → was name ≡ first name)
    → ((name : List ℕ) → is_checkpoint checkpoints name ≡ true → now name ≡ is name)
    → CheckpointsStand checkpoints asked was is how → CheckpointsStand checkpoints asked first now how
stand-between None asked first was is now how before then saved = tt
stand-between (Some prefix) asked first was is now how before then saved = record {
  made = saved.made;
  each = saved.each;
  more = saved.more;
  is_more = saved.is_more;
  stand = λ name there.
      then name there ∙ saved.stand name there
      ∙ ap (text_behind name (all_writes asked prefix First saved.made ++ saved.more)) (before name there);
}

-- an outcome that says less of them: a listing that ended in its search may fail behind it, or want memory
weaker : (asked : Asked) (prefix : List ℕ) (pair : Pair) (done : List Write) (ending : Ending) (how : Outcome)
    → AreMore (outcome.Ended ending) asked prefix pair done → AreMore how asked prefix pair done
weaker asked prefix pair done ending (outcome.Ended other_ending) none = none
weaker asked prefix pair done ending outcome.Failed none = inl none
weaker asked prefix pair done ending outcome.Memory none = inl none

pub stand-weaker : (checkpoints : Option (List ℕ)) (asked : Asked) (was is : Texts) (ending : Ending) (how : Outcome)
    → CheckpointsStand checkpoints asked was is (outcome.Ended ending) → CheckpointsStand checkpoints asked was is how
stand-weaker None asked was is ending how saved = tt
stand-weaker (Some prefix) asked was is ending how saved = record {
  made = saved.made;
  each = saved.each;
  more = saved.more;
  is_more = weaker asked prefix (pair_behind First saved.made) saved.more ending how saved.is_more;
  stand = saved.stand;
}

-- one that wanted memory may fail to say so
short-fails : (asked : Asked) (prefix : List ℕ) (pair : Pair) (done : List Write) → AreMore outcome.Memory asked prefix pair done
    → AreMore outcome.Failed asked prefix pair done
short-fails asked prefix pair done (inl none) = inl none
short-fails asked prefix pair done (inr some) = inr (record { checkpoint = some.checkpoint; is = some.is; part = inl some.part })

pub stand-short : (checkpoints : Option (List ℕ)) (asked : Asked) (was is : Texts) (how : Outcome) → ((ending : Ending) → ¬ (how ≡ outcome.Ended ending))
    → CheckpointsStand checkpoints asked was is outcome.Memory → CheckpointsStand checkpoints asked was is how
stand-short None asked was is how never saved = tt
stand-short (Some prefix) asked was is (outcome.Ended ending) never saved = absurd (never ending refl)
stand-short (Some prefix) asked was is outcome.Failed never saved = record {
  made = saved.made;
  each = saved.each;
  more = saved.more;
  is_more = short-fails asked prefix (pair_behind First saved.made) saved.more saved.is_more;
  stand = saved.stand;
}
stand-short (Some prefix) asked was is outcome.Memory never saved = saved

-- ---- whatever session the listing goes on from
module _ (asked : Asked) (session : Session) (s : DebugState) (found : List SetWithValues) (pair now_pair : Pair) (was is : Texts) where
  abbrev here : SavingNow
  here = saving_of asked s found pair now_pair was is

  abbrev there : SavingNow
  there = saving_of (record asked { session = session }) s found pair now_pair was is

  puts-with : (AreLeft : List Write → Outputs → Type 0) → Puts here AreLeft → Puts there AreLeft
  puts-with AreLeft puts = record {
    prefix = puts.prefix;
    asks = puts.asks;
    savable = record {
      some = puts.savable.some;
      digest = puts.savable.digest;
      distinct = puts.savable.distinct;
      report = puts.savable.report;
    };
    left = puts.left;
  }

  pub save-with : (r : Result (Unit {0}) Stop) → SaveLeaves here r → SaveLeaves there r
  save-with (Ok x) (inl stays) = inl stays
  save-with (Ok x) (inr done) = inr (puts-with AreDone done.0, done.1)
  save-with (Err Failed) puts = puts-with StopsIn puts
  save-with (Err (Memory sets)) (same, inl stays) = (same, inl stays)
  save-with (Err (Memory sets)) (same, inr puts) = (same, inr (puts-with AreBegun puts))

-- memory was wanted behind so many sets
pub save-short : (v : SavingNow) (why : Stop) → SaveLeaves {X = Unit {0}} v (Err why) → StopsBehind (length v.found) why
save-short v Failed leaves = tt
save-short v (Memory sets) leaves = leaves.0

-- the cause of an answer
pub save-causes : (first old new : FaultCounts) (sink mid : ℕ) (why : Stop) → old ≡ first → mid ≡ sink
    → ShelfCauses {X = Unit {0}} old new (Err why) → StopCauses {X = Ending} (counts_of first new sink mid) (Err why)
save-causes first old new sink mid Failed same printed cause = inl (subst (λ (counts : FaultCounts). WriteRose counts new) same cause)
save-causes first old new sink mid (Memory sets) same printed cause = (cause ∙ same, printed)

-- the cause of an answer behind others that let no count rise
pub causes-on : (first old new : FaultCounts) (sink mid now : ℕ) (why : Stop) → old ≡ first → mid ≡ sink
    → StopCauses {X = Option Ending} (counts_of old new mid now) (Err why) → StopCauses {X = Ending} (counts_of first new sink now) (Err why)
causes-on first old new sink mid now Failed same printed cause =
    subst (λ (counts : FaultCounts). WriteFailed (counts_of counts new sink now)) same
    (subst (λ (n : ℕ). WriteFailed (counts_of old new n now)) printed cause)
causes-on first old new sink mid now (Memory sets) same printed cause = (cause.0 ∙ same, cause.1 ∙ printed)

-- ---- a call that makes one, or none
-- nothing is written
pub nothing-written : (asked : Asked) (s : DebugState) (found : List SetWithValues) (pair now_pair : Pair) (was : Texts)
    → WriteLeaves {X = Unit {0}} (saving_of asked s found pair now_pair was was) (Err write.NoMemory)
nothing-written asked s found pair now_pair was = inl (record { texts = λ name. refl; printed = refl })

pub nothing-saved : (asked : Asked) (s : DebugState) (found : List SetWithValues) (pair : Pair) (was : Texts) (x : Unit {0})
    → SaveLeaves {X = Unit {0}} (saving_of asked s found pair pair was was) (Ok x)
nothing-saved asked s found pair was x = inl (record { texts = λ name. refl; printed = refl }, refl)

pub ruleset save_rules = (nothing-written, nothing-saved)

-- two texts under two names
pub same-texts : (P : List Write → Type 0) (log log_to text text_to report report_to more more_to : List ℕ) → log ≡ log_to → text ≡ text_to
    → report ≡ report_to → more ≡ more_to → P (text_writes log text ++ text_writes report more)
    → P (text_writes log_to text_to ++ text_writes report_to more_to)
same-texts P log log_to text text_to report report_to more more_to one two three four holds =
    subst (λ (n : List ℕ). P (text_writes n text_to ++ text_writes report_to more_to)) one
    (subst (λ (t : List ℕ). P (text_writes log t ++ text_writes report_to more_to)) two
    (subst (λ (n : List ℕ). P (text_writes log text ++ text_writes n more_to)) three
    (subst (λ (t : List ℕ). P (text_writes log text ++ text_writes report t)) four holds)))

-- what the writes of one come to
pub saved-as : (v : SavingNow) (r : Result (Unit {0}) WriteErr) (sets : Option ℕ) (stop : Result (Unit {0}) Stop) → stop ≡ stopped r sets
    → sets ≡ Some (length v.found) → WriteLeaves v r → SaveLeaves v stop
saved-as v (Ok x) sets stop is same leaves = subst (SaveLeaves v) (sym is) (inr leaves)
saved-as v (Err write.Failed) sets stop is same leaves = subst (SaveLeaves v) (sym is) leaves
saved-as v (Err write.NoMemory) sets stop is same leaves = subst (SaveLeaves v) (sym is) (same, leaves)

pub causes-as : (old new : FaultCounts) (r : Result (Unit {0}) WriteErr) (sets : Option ℕ) (stop : Result (Unit {0}) Stop) → stop ≡ stopped r sets
    → WriteCause old new r → ShelfCauses old new stop
causes-as old new (Ok x) sets stop is cause = subst (ShelfCauses old new) (sym is) cause
causes-as old new (Err write.Failed) sets stop is cause = subst (ShelfCauses old new) (sym is) cause
causes-as old new (Err write.NoMemory) sets stop is cause = subst (ShelfCauses old new) (sym is) cause

pub write-fails : (asked : Asked) (s : DebugState) (found : List SetWithValues) (pair now_pair : Pair) (was is : Texts) (prefix : List ℕ)
    → asked.checkpoints ≡ Some prefix → IsSavable asked s found → (e : WriteErr)
    → Leaves {X = Unit {0}} (now_writes asked s found prefix pair) (on_shelf was is []) (Err e)
    → WriteLeaves {X = Unit {0}} (saving_of asked s found pair now_pair was is) (Err e)
write-fails asked s found pair now_pair was is prefix asks savable write.Failed left =
    record { prefix = prefix; asks = asks; savable = savable; left = left }
write-fails asked s found pair now_pair was is prefix asks savable write.NoMemory left =
    inr (record { prefix = prefix; asks = asks; savable = savable; left = left })
