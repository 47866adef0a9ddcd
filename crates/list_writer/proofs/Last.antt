-- The last checkpoint that was put whole stands: what was done of one more is under other names.
use Rattle.std.proofs.Common.{◌≡◌, ◌≢◌, ◌⊎◌, inl, inr, ℕ, Bool, true, false, List, [], ◌++◌, get_or, take, Option, Some, refl, ap, sym, ◌∙◌, subst, arith}
use Rattle.std.specs.Prelude.{codes}
use Rattle.std.specs.Str.{bytes_eq}
use Rattle.std.specs.Cmp.Lexicographic.{bytes_decides}
use Rattle.set_waves.specs.Writes.{text_writes}
use Rattle.set_waves.proofs.StandLaws.{writes-elsewhere, writes-here}
use Rattle.write_order.specs.Writes.{Write, text_behind}
use Rattle.write_order.proofs.Carried.{text_behind-append}
use Rattle.list_writer.specs.declared.outcome.Outcome.{Outcome}
use Rattle.list_writer.specs.declared.outcome.Outcome.TheVariants.{Ended, Failed, Memory}
use Rattle.list_writer.specs.declared.pair.Pair.{Pair}
use Rattle.list_writer.specs.declared.pair.Pair.TheVariants.{First, Second}
use Rattle.list_writer.specs.Asked.{Asked}
use Rattle.list_writer.specs.CheckpointNames.{is_name, log_name, other, report_name}
use Rattle.list_writer.specs.Checkpoints.{AreFailed, AreFirst, AreMore, Checkpoint, all_writes, checkpoint_writes, log_text, pair_behind, report_text}
use Rattle.list_writer.specs.Laws.{WithCheckpoints}
use Rattle.list_writer.proofs.Beside.{HaveNames, name-at, names-append, names-part, names-take, text-stays}
use Rattle.list_writer.proofs.CheckpointNamed.{log-named, report-named}
use Rattle.list_writer.proofs.Saved.{all-push, pair-push}
use Rattle.list_writer.proofs.Steps.{append-cancel}

-- ---- the four names
module _ (prefix : List ℕ) where
  -- names that differ in a byte behind the prefix
  apart-at : (n a b : ℕ) (one next : List ℕ) → get_or one n 0 ≡ a → get_or next n 0 ≡ b → a ≢ b → prefix ++ one ≢ prefix ++ next
  apart-at n a b one next first second apart same =
      apart (sym first ∙ ap (λ (xs : List ℕ). get_or xs n 0) (append-cancel prefix one next same) ∙ second)

  log-report : (pair : Pair) → log_name prefix pair ≢ report_name prefix pair
  log-report First = apart-at 3 108 106 (codes "-1.log") (codes "-1.json") refl refl (λ e. omega (arith, e))
  log-report Second = apart-at 3 108 106 (codes "-2.log") (codes "-2.json") refl refl (λ e. omega (arith, e))

  report-log : (pair : Pair) → report_name prefix pair ≢ log_name prefix pair
  report-log pair same = log-report pair (sym same)

  -- a name of the other pair
  abbrev IsOther : Pair → List ℕ → Type 0
  IsOther pair name = (name ≡ log_name prefix (other pair)) ⊎ (name ≡ report_name prefix (other pair))

  log-log : (pair : Pair) → log_name prefix pair ≢ log_name prefix (other pair)
  log-log First = apart-at 1 49 50 (codes "-1.log") (codes "-2.log") refl refl (λ e. omega (arith, e))
  log-log Second = apart-at 1 50 49 (codes "-2.log") (codes "-1.log") refl refl (λ e. omega (arith, e))

  log-other : (pair : Pair) → log_name prefix pair ≢ report_name prefix (other pair)
  log-other First = apart-at 1 49 50 (codes "-1.log") (codes "-2.json") refl refl (λ e. omega (arith, e))
  log-other Second = apart-at 1 50 49 (codes "-2.log") (codes "-1.json") refl refl (λ e. omega (arith, e))

  report-other : (pair : Pair) → report_name prefix pair ≢ log_name prefix (other pair)
  report-other First = apart-at 1 49 50 (codes "-1.json") (codes "-2.log") refl refl (λ e. omega (arith, e))
  report-other Second = apart-at 1 50 49 (codes "-2.json") (codes "-1.log") refl refl (λ e. omega (arith, e))

  report-report : (pair : Pair) → report_name prefix pair ≢ report_name prefix (other pair)
  report-report First = apart-at 1 49 50 (codes "-1.json") (codes "-2.json") refl refl (λ e. omega (arith, e))
  report-report Second = apart-at 1 50 49 (codes "-2.json") (codes "-1.json") refl refl (λ e. omega (arith, e))

  unequal : (name named : List ℕ) → name ≢ named → bytes_eq name named ≡ false
  unequal name named apart = at (bytes_eq name named) refl
    where
      at : (b : Bool) → bytes_eq name named ≡ b → b ≡ false
      at true e = absurd (apart ((bytes_decides name named).0 e))
      at false e = refl

  of-other : (pair : Pair) (name : List ℕ) → name ≢ log_name prefix (other pair) → name ≢ report_name prefix (other pair) → (named : List ℕ)
      → IsOther pair named → bytes_eq name named ≡ false
  of-other pair name no_log no_report named (inl log) = unequal name named (λ same. no_log (same ∙ log))
  of-other pair name no_log no_report named (inr report) = unequal name named (λ same. no_report (same ∙ report))

  -- ---- what was done of one more
  checkpoint-named : (asked : Asked) (pair : Pair) (c : Checkpoint) → HaveNames (IsOther pair) (checkpoint_writes asked prefix (other pair) c)
  checkpoint-named asked pair c = (inl refl, (inl refl, (inr refl, (inr refl, tt))))

  first-named : (asked : Asked) (pair : Pair) (c : Checkpoint) (done : List Write) → AreFirst (checkpoint_writes asked prefix (other pair) c) done
      → HaveNames (IsOther pair) done
  first-named asked pair c done (count, is) =
      subst (HaveNames (IsOther pair)) (sym is)
      (names-take (IsOther pair) count (checkpoint_writes asked prefix (other pair) c) (checkpoint-named asked pair c))

  failed-named : (asked : Asked) (pair : Pair) (c : Checkpoint) (done : List Write) → AreFailed (checkpoint_writes asked prefix (other pair) c) done
      → HaveNames (IsOther pair) done
  failed-named asked pair c done f =
      let writes : List Write = checkpoint_writes asked prefix (other pair) c in
      subst (HaveNames (IsOther pair)) (sym f.are)
      (names-append (IsOther pair) (take f.count writes) f.part
      (names-take (IsOther pair) f.count writes (checkpoint-named asked pair c))
      (names-part (IsOther pair) f.failed f.part f.is_part (name-at (IsOther pair) writes f.count f.failed f.at (checkpoint-named asked pair c))))

  none-named : (pair : Pair) (done : List Write) → done ≡ [] → HaveNames (IsOther pair) done
  none-named pair done none = subst (HaveNames (IsOther pair)) (sym none) tt

  more-named : (how : Outcome) (asked : Asked) (pair : Pair) (done : List Write) → AreMore how asked prefix (other pair) done
      → HaveNames (IsOther pair) done
  more-named (Ended ending) asked pair done none = none-named pair done none
  more-named Failed asked pair done (inl none) = none-named pair done none
  more-named Failed asked pair done (inr one) = either one.part
    where
      either : AreFirst (checkpoint_writes asked prefix (other pair) one.checkpoint) done ⊎ AreFailed (checkpoint_writes asked prefix (other pair) one.checkpoint) done
          → HaveNames (IsOther pair) done
      either (inl first) = first-named asked pair one.checkpoint done first
      either (inr failed) = failed-named asked pair one.checkpoint done failed
  more-named Memory asked pair done (inl none) = none-named pair done none
  more-named Memory asked pair done (inr one) = first-named asked pair one.checkpoint done one.part

-- ---- the last that was put whole
module _ (of : WithCheckpoints) where
  abbrev pair : Pair
  pair = pair_behind First of.before

  abbrev whole : List Write
  whole = checkpoint_writes of.asked of.prefix pair of.last

  writes-are : all_writes of.asked of.prefix First of.saved.made ≡ all_writes of.asked of.prefix First of.before ++ whole
  writes-are = ap (all_writes of.asked of.prefix First) of.are ∙ all-push of.asked of.prefix First of.before of.last

  next-pair : pair_behind First of.saved.made ≡ other pair
  next-pair = ap (pair_behind First) of.are ∙ pair-push First of.before of.last

  others-named : HaveNames (IsOther of.prefix pair) of.saved.more
  others-named =
      more-named of.prefix of.outcome of.asked pair of.saved.more
      (subst (λ (p : Pair). AreMore of.outcome of.asked of.prefix p of.saved.more) next-pair of.saved.is_more)

  -- what stands under a name of its pair is what its own writes leave there
  its-own : (name : List ℕ) → is_name of.prefix name ≡ true → name ≢ log_name of.prefix (other pair) → name ≢ report_name of.prefix (other pair)
      → of.is name ≡ text_behind name whole (text_behind name (all_writes of.asked of.prefix First of.before) (of.was name))
  its-own name there no_log no_report =
      of.saved.stand name there
      ∙ text_behind-append name (all_writes of.asked of.prefix First of.saved.made) of.saved.more (of.was name)
      ∙ text-stays (IsOther of.prefix pair) name (of-other of.prefix pair name no_log no_report) of.saved.more
      (text_behind name (all_writes of.asked of.prefix First of.saved.made) (of.was name)) others-named
      ∙ ap (λ (ws : List Write). text_behind name ws (of.was name)) writes-are
      ∙ text_behind-append name (all_writes of.asked of.prefix First of.before) whole (of.was name)

  pub log-stands : of.is (log_name of.prefix pair) ≡ Some (log_text of.asked of.last)
  log-stands =
      let name : List ℕ = log_name of.prefix pair in
      let was : Option (List ℕ) = text_behind name (all_writes of.asked of.prefix First of.before) (of.was name) in
      its-own name (log-named of.prefix pair) (log-log of.prefix pair) (log-other of.prefix pair)
      ∙ text_behind-append name (text_writes name (log_text of.asked of.last)) (text_writes (report_name of.prefix pair) (report_text of.asked of.last)) was
      ∙ writes-elsewhere name (report_name of.prefix pair) (report_text of.asked of.last) (text_behind name (text_writes name (log_text of.asked of.last)) was)
      (log-report of.prefix pair)
      ∙ writes-here name (log_text of.asked of.last) was

  pub report-stands : of.is (report_name of.prefix pair) ≡ Some (report_text of.asked of.last)
  report-stands =
      let name : List ℕ = report_name of.prefix pair in
      let was : Option (List ℕ) = text_behind name (all_writes of.asked of.prefix First of.before) (of.was name) in
      its-own name (report-named of.prefix pair) (report-other of.prefix pair) (report-report of.prefix pair)
      ∙ text_behind-append name (text_writes (log_name of.prefix pair) (log_text of.asked of.last)) (text_writes name (report_text of.asked of.last)) was
      ∙ writes-here name (report_text of.asked of.last) (text_behind name (text_writes (log_name of.prefix pair) (log_text of.asked of.last)) was)
