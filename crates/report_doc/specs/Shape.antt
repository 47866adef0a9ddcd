-- What a report may hold.
use Rattle.std.specs.Prelude.{◌≡◌, ◌≢◌, ℕ, ◌^◌, ◌<◌, ◌≤◌, ◌⊎◌, List, [], length, All, IfSome, AllPairs}
use Rattle.hex.specs.Hex.{IsBytes}
use Rattle.loc_base.specs.Name.{IsName}
use Rattle.loc_base.specs.declared.digest.Digest.{Digest}
use Rattle.report_doc.specs.declared.types.Report.{Report}
use Rattle.report_doc.specs.declared.types.ReportSet.{ReportSet}
use Rattle.report_doc.specs.declared.types.ReportSuspect.{ReportSuspect}

-- a lower-case hex digit: `0` to `9`, or `a` to `f`
abbrev pub IsHexDigit : ℕ → Type 0
IsHexDigit byte = ((48 ≤ byte) × (byte ≤ 57)) ⊎ ((97 ≤ byte) × (byte ≤ 102))

-- a value: 1 to 32 digits
pub record IsHexText (text : List ℕ) : Type 0 where
  pub least : 1 ≤ length text
  pub most : length text ≤ 32
  pub digits : All IsHexDigit text

-- some names, each once
pub record AreKinds (names : List (List ℕ)) : Type 0 where
  pub some : names ≢ []
  pub once : AllPairs (λ one other. one ≢ other) names

-- each text of each cycle is a value
abbrev pub AreValues : List (List (List ℕ)) → Type 0
AreValues cycles = All (All IsHexText) cycles

-- the report can be written
pub record CanBeWritten (r : Report) : Type 0 where
  pub kinds : AreKinds r.kinds
  pub size : r.size ≤ 8
  pub values : All (λ set. All AreValues set.values) r.sets

-- ---- what the types say of each value of theirs

-- a number of 32 bits
abbrev pub IsWord : ℕ → Type 0
IsWord n = n < 2 ^ 32

-- a digest has 32 bytes
pub record IsDigest (digest : Digest) : Type 0 where
  pub bytes : IsBytes digest.bytes
  pub count : length digest.bytes ≡ 32

pub record IsSet (set : ReportSet) : Type 0 where
  pub members : All IsWord set.members
  pub values : All AreValues set.values

pub record IsSuspect (suspect : ReportSuspect) : Type 0 where
  pub kind : IsName suspect.kind
  pub label : IsName suspect.label
  pub line : IsWord suspect.line

-- it is a report: it can be written, its names are names, and its numbers have 32 bits
pub record IsReport (r : Report) : Type 0 where
  pub clock : IfSome r.clock IsName
  pub inputs : IsDigest r.inputs
  pub names : All IsName r.kinds
  pub kinds : AreKinds r.kinds
  pub sets : All IsSet r.sets
  pub size : r.size ≤ 8
  pub suspects : All IsSuspect r.suspects
  pub top : IsName r.top
