-- The writes of a checkpoint have its names.
use Rattle.std.proofs.Common.{◌≡◌, ℕ, Bool, true, false, ◌||◌, List, refl}
use Rattle.std.specs.Str.{bytes_eq}
use Rattle.std.specs.Cmp.Lexicographic.{bytes_decides}
use Rattle.design_core.specs.declared.values.SetWithValues.{SetWithValues}
use Rattle.debug_core.specs.Debugging.{DebugState}
use Rattle.list_writer.specs.declared.pair.Pair.{Pair}
use Rattle.list_writer.specs.declared.pair.Pair.TheVariants.{First, Second}
use Rattle.list_writer.specs.Asked.{Asked}
use Rattle.list_writer.specs.CheckpointNames.{is_name, log_name, report_name}
use Rattle.list_writer.specs.Saving.{now_writes}
use Rattle.list_writer.proofs.Beside.{HaveNames, IsOne}

or-first : (a b c d : Bool) → a ≡ true → ((a || b) || (c || d)) ≡ true
or-first true b c d e = refl
or-first false b c d e = absurd (cc)

or-second : (a b c d : Bool) → b ≡ true → ((a || b) || (c || d)) ≡ true
or-second true b c d e = refl
or-second false true c d e = refl
or-second false false c d e = absurd (cc)

or-third : (a b c d : Bool) → c ≡ true → ((a || b) || (c || d)) ≡ true
or-third true b c d e = refl
or-third false true c d e = refl
or-third false false true d e = refl
or-third false false false d e = absurd (cc)

or-fourth : (a b c d : Bool) → d ≡ true → ((a || b) || (c || d)) ≡ true
or-fourth true b c d e = refl
or-fourth false true c d e = refl
or-fourth false false true d e = refl
or-fourth false false false true e = refl
or-fourth false false false false e = absurd (cc)

module _ (prefix : List ℕ) where
  same-bytes : (name : List ℕ) → bytes_eq name name ≡ true
  same-bytes name = (bytes_decides name name).1 refl

  pub log-named : (pair : Pair) → is_name prefix (log_name prefix pair) ≡ true
  log-named First =
      or-first (bytes_eq (log_name prefix First) (log_name prefix First)) (bytes_eq (log_name prefix First) (report_name prefix First))
      (bytes_eq (log_name prefix First) (log_name prefix Second)) (bytes_eq (log_name prefix First) (report_name prefix Second))
      (same-bytes (log_name prefix First))
  log-named Second =
      or-third (bytes_eq (log_name prefix Second) (log_name prefix First)) (bytes_eq (log_name prefix Second) (report_name prefix First))
      (bytes_eq (log_name prefix Second) (log_name prefix Second)) (bytes_eq (log_name prefix Second) (report_name prefix Second))
      (same-bytes (log_name prefix Second))

  pub report-named : (pair : Pair) → is_name prefix (report_name prefix pair) ≡ true
  report-named First =
      or-second (bytes_eq (report_name prefix First) (log_name prefix First)) (bytes_eq (report_name prefix First) (report_name prefix First))
      (bytes_eq (report_name prefix First) (log_name prefix Second)) (bytes_eq (report_name prefix First) (report_name prefix Second))
      (same-bytes (report_name prefix First))
  report-named Second =
      or-fourth (bytes_eq (report_name prefix Second) (log_name prefix First)) (bytes_eq (report_name prefix Second) (report_name prefix First))
      (bytes_eq (report_name prefix Second) (log_name prefix Second)) (bytes_eq (report_name prefix Second) (report_name prefix Second))
      (same-bytes (report_name prefix Second))

  pub now-named : (asked : Asked) (s : DebugState) (found : List SetWithValues) (pair : Pair)
      → HaveNames (IsOne prefix) (now_writes asked s found prefix pair)
  now-named asked s found pair = (log-named pair, (log-named pair, (report-named pair, (report-named pair, tt))))
