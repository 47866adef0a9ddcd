-- Why nothing is simulated, by what the loading of texts says.
use Rattle.std.proofs.Common.{ℕ, ◌≡◌, List, Some, sym, subst, ◌∙◌}
use Rattle.command_contract.specs.Contract.{Texts}
use Rattle.design_core.specs.declared.design.Design.{Design}
use Rattle.front_end.specs.Means.{Meaning, Refusing}
use Rattle.load_texts.specs.By.{manner_asked}
use Rattle.load_texts.specs.Causes.{TraceCause}
use Rattle.load_texts.specs.Lines.{DesignRefused, TracesRefused, design_refused, trace_refused}
use Rattle.load_texts.specs.Means.{MeansDesign}
use Rattle.refusal.specs.declared.last_line.LastLine.{LastLine}
use Rattle.refusal.specs.declared.last_line.LastLine.TheVariants.{Line, Memory}
use Rattle.refusal.specs.Ends.{HasCause}
use Rattle.requests.specs.Asked.{SourcesAsked}
use Rattle.sim_cmd.specs.Simulation.{Refused, for_design, for_trace}

by-design : (M : Meaning) (R : Refusing) (asked : SourcesAsked) (texts : Texts) (status : ℕ) (line : List ℕ)
    → DesignRefused R asked texts status line → Refused M R asked texts status line
by-design M R asked texts status line (design_refused fault cause) = for_design fault cause

pub design-cause : (M : Meaning) (R : Refusing) (asked : SourcesAsked) (texts : Texts) (r : LastLine)
    → HasCause (DesignRefused R asked texts) r → HasCause (Refused M R asked texts) r
design-cause M R asked texts (Line s l) cause = by-design M R asked texts s l.items cause
design-cause M R asked texts Memory cause = tt

some-same : {x y : List ℕ} → Some x ≡ Some y → x ≡ y
some-same e = cc

by-traces : (M : Meaning) (R : Refusing) (asked : SourcesAsked) (texts : Texts) (d : Design) (status : ℕ) (line : List ℕ)
    → MeansDesign M asked texts d → TracesRefused asked texts d status line → Refused M R asked texts status line
by-traces M R asked texts d status line means (trace_refused place name fault stops at) =
    for_trace d place name fault (record {
      design = means;
      before = stops.before;
      mean = stops.mean;
      at = at;
      cause = subst (λ n. TraceCause (texts n) d (manner_asked asked) fault) (some-same (sym stops.at ∙ at)) stops.cause;
    })

pub trace-cause : (M : Meaning) (R : Refusing) (asked : SourcesAsked) (texts : Texts) (d : Design) (r : LastLine)
    → MeansDesign M asked texts d → HasCause (TracesRefused asked texts d) r → HasCause (Refused M R asked texts) r
trace-cause M R asked texts d (Line s l) means cause = by-traces M R asked texts d s l.items means cause
trace-cause M R asked texts d Memory means cause = tt
