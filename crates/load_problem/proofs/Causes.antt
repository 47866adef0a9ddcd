-- Why nothing is listed: from the refusal of a text, of the number of suspects or of the form to the line that says so.
use Rattle.std.proofs.Common.{ℕ, ◌≡◌, ◌<◌, ◌≤◌, List, length, refl, sym, subst, ◌∙◌, arith, Some, ◌⊎◌, inr}
use Rattle.io_ports.specs.Faults.{FaultCounts}
use Rattle.command_contract.specs.Contract.{Texts}
use Rattle.command_contract.proofs.Statuses.{input-range}
use Rattle.design_core.specs.declared.design.Design.{Design}
use Rattle.design_core.specs.declared.place.Place.{Place}
use Rattle.suspect_map.specs.declared.group.Group.{Group}
use Rattle.front_end.specs.Means.{Meaning, Refusing}
use Rattle.debug_core.specs.declared.error.DebugErr.{DebugErr}
use Rattle.debug_core.specs.declared.error.DebugErr.TheVariants.{Nodes, Vars, Literals, NoMemory}
use Rattle.debug_core.specs.Problems.{IsRefused, Problem}
use Rattle.load_texts.specs.By.{manner_asked}
use Rattle.load_texts.specs.Causes.{TraceCause}
use Rattle.load_texts.specs.Lines.{DesignRefused, TracesRefused, design_refused, trace_refused}
use Rattle.load_texts.specs.Means.{MeansDesign}
use Rattle.load_texts.proofs.Endings.{said, spared}
use Rattle.refusal.specs.declared.last_line.LastLine.{LastLine}
use Rattle.refusal.specs.declared.last_line.LastLine.TheVariants.{Line, Memory}
use Rattle.refusal.specs.Ends.{HasCause, HasStatus, IsMemory, IsSpared, RefusalCounts, Says}
use Rattle.requests.specs.Asked.{WantedAsked}
use Rattle.load_problem.specs.Within.{HasTooMany}
use Rattle.load_problem.specs.Means.{Means, Suspecting, most_suspects}
use Rattle.load_problem.specs.Refusals.{FormRefused, HasFewSuspects, IsReady, Refused, for_design, for_problem, for_suspects, for_trace, form_fault}
use Rattle.load_problem.specs.Refusals.{problem_line, problem_status}

-- ---- the design
design-refused : (M : Meaning) (R : Refusing) (S : Suspecting) (asked : WantedAsked) (texts : Texts) (status : ℕ) (line : List ℕ)
    → DesignRefused R asked.sources texts status line → Refused M R S asked texts status line
design-refused M R S asked texts status line (design_refused fault cause) = for_design fault cause

pub design-cause : (M : Meaning) (R : Refusing) (S : Suspecting) (asked : WantedAsked) (texts : Texts) (r : LastLine)
    → HasCause (DesignRefused R asked.sources texts) r → HasCause (Refused M R S asked texts) r
design-cause M R S asked texts (Line s l) cause = design-refused M R S asked texts s l.items cause
design-cause M R S asked texts Memory cause = tt

-- ---- the number of suspects
pub many-cause : (M : Meaning) (R : Refusing) (S : Suspecting) (asked : WantedAsked) (texts : Texts) (d : Design) (r : LastLine)
    (names : List (List ℕ)) (places : List Place) → names ≡ asked.suspects → places ≡ d.places.items
    → MeansDesign M asked.sources texts d → HasTooMany (length (S names places)) r → HasCause (Refused M R S asked texts) r
many-cause M R S asked texts d (Line s l) names places e f means (is, line, many) =
    said (Refused M R S asked texts) (Line s l) 4 _
    (for_suspects d means
    (subst (λ ns. most_suspects < length (S ns d.places.items)) e
    (subst (λ (ps : List Place). most_suspects < length (S names ps)) f many)))
    (is, line)
many-cause M R S asked texts d Memory names places e f means many = tt

pub many-spared : (M : Meaning) (S : Suspecting) (asked : WantedAsked) (texts : Texts) (d : Design) (r : LastLine)
    (names : List (List ℕ)) (places : List Place) → names ≡ asked.suspects → places ≡ d.places.items
    → MeansDesign M asked.sources texts d → IsReady M S asked texts → HasTooMany (length (S names places)) r → IsSpared r
many-spared M S asked texts d (Line s l) names places e f means ready (is, line, many) =
    let few : length (S asked.suspects d.places.items) ≤ most_suspects = ready.suspects d means in
    let more : most_suspects < length (S asked.suspects d.places.items) =
    subst (λ ns. most_suspects < length (S ns d.places.items)) e
    (subst (λ (ps : List Place). most_suspects < length (S names ps)) f many) in
    absurd (omega (arith, few, more))
many-spared M S asked texts d Memory names places e f means ready many = tt

-- ---- a trace
some-same : {x y : List ℕ} → Some x ≡ Some y → x ≡ y
some-same e = cc

traces-refused : (M : Meaning) (R : Refusing) (S : Suspecting) (asked : WantedAsked) (texts : Texts) (d : Design) (status : ℕ)
    (line : List ℕ) → MeansDesign M asked.sources texts d → HasFewSuspects S asked d
    → TracesRefused asked.sources texts d status line → Refused M R S asked texts status line
traces-refused M R S asked texts d status line means few (trace_refused place name fault stops at) =
    for_trace d place name fault few
    (record {
      design = means;
      before = stops.before;
      mean = stops.mean;
      at = at;
      cause = subst (λ n. TraceCause (texts n) d (manner_asked asked.sources) fault) (some-same (sym stops.at ∙ at)) stops.cause;
    })

pub trace-cause : (M : Meaning) (R : Refusing) (S : Suspecting) (asked : WantedAsked) (texts : Texts) (d : Design) (r : LastLine)
    (names : List (List ℕ)) (places : List Place) (groups : List Group) → names ≡ asked.suspects → places ≡ d.places.items
    → MeansDesign M asked.sources texts d → groups ≡ S names places → length groups ≤ most_suspects
    → HasCause (TracesRefused asked.sources texts d) r → HasCause (Refused M R S asked texts) r
trace-cause M R S asked texts d (Line s l) names places groups e f means are few is =
    let small : length (S asked.suspects d.places.items) ≤ most_suspects =
    subst (λ ns. length (S ns d.places.items) ≤ most_suspects) e
    (subst (λ (ps : List Place). length (S names ps) ≤ most_suspects) f
    (subst (λ (gs : List Group). length gs ≤ most_suspects) are few)) in
    traces-refused M R S asked texts d s l.items means small is
trace-cause M R S asked texts d Memory names places groups e f means are few is = tt

-- ---- the form
pub problem-cause : (M : Meaning) (R : Refusing) (S : Suspecting) (asked : WantedAsked) (texts : Texts) (p : Problem) (fault : DebugErr)
    (r : LastLine) → Means M S asked texts p → IsRefused p fault → Says r (problem_status fault) (problem_line fault)
    → HasCause (Refused M R S asked texts) r
problem-cause M R S asked texts p fault r means refused says =
    said (Refused M R S asked texts) r (problem_status fault) (problem_line fault) (for_problem p fault means refused) says

no-memory_spared : (fault : DebugErr) (r : LastLine) → HasStatus r → Says r (problem_status fault) (problem_line fault)
    → fault ≡ NoMemory → IsSpared r
no-memory_spared NoMemory r has says e = spared r 7 (problem_line NoMemory) has says (inr refl)
no-memory_spared Nodes r has says e = absurd (cc)
no-memory_spared Vars r has says e = absurd (cc)
no-memory_spared Literals r has says e = absurd (cc)

pub problem-spared : (M : Meaning) (S : Suspecting) (asked : WantedAsked) (texts : Texts) (p : Problem) (fault : DebugErr) (r : LastLine)
    → HasStatus r → Says r (problem_status fault) (problem_line fault) → Means M S asked texts p → IsRefused p fault
    → IsReady M S asked texts → IsSpared r
problem-spared M S asked texts p fault r has says means refused ready =
    no-memory_spared fault r has says (ready.no_limit p fault means refused)

-- it is no fault of the shelf
not-five : (fault : DebugErr) → problem_status fault ≡ 5 → ⊥
not-five Nodes e = omega (arith, e)
not-five Vars e = omega (arith, e)
not-five Literals e = omega (arith, e)
not-five NoMemory e = omega (arith, e)

pub problem-counts : (old new : FaultCounts) (fault : DebugErr) (r : LastLine) → Says r (problem_status fault) (problem_line fault)
    → new ≡ old → RefusalCounts old new r
problem-counts old new fault (Line s l) (e, f) same = (λ five. absurd (not-five fault (sym e ∙ five)), λ _. same)
problem-counts old new fault Memory says same = tt

-- a fault is a limit that is passed, or want of memory
pub form-low : (p : Problem) (s : ℕ) (l : List ℕ) → FormRefused p s l → (s ≡ 3) ⊎ (s ≡ 4)
form-low p s l (form_fault fault is e) = inr refl

pub form-cause : (p : Problem) (fault : DebugErr) (r : LastLine) → IsRefused p fault → HasStatus r
    → Says r (problem_status fault) (problem_line fault) → HasCause (FormRefused p) r
form-cause p Nodes r is has says = said (FormRefused p) r 4 (problem_line Nodes) (form_fault Nodes is refl) says
form-cause p Vars r is has says = said (FormRefused p) r 4 (problem_line Vars) (form_fault Vars is refl) says
form-cause p Literals r is has says = said (FormRefused p) r 4 (problem_line Literals) (form_fault Literals is refl) says
form-cause p NoMemory (Line s l) is has (e, f) = absurd (omega (arith, e, input-range s has))
form-cause p NoMemory Memory is has says = tt

pub form-memory : (fault : DebugErr) (r : LastLine) → HasStatus r → Says r (problem_status fault) (problem_line fault)
    → fault ≡ NoMemory → IsMemory r
form-memory NoMemory (Line s l) has (e, f) same = absurd (omega (arith, e, input-range s has))
form-memory NoMemory Memory has says same = tt
form-memory Nodes r has says same = absurd (cc)
form-memory Vars r has says same = absurd (cc)
form-memory Literals r has says same = absurd (cc)

-- the problem that the texts mean passes it
pub form-refused : (M : Meaning) (R : Refusing) (S : Suspecting) (asked : WantedAsked) (texts : Texts) (p : Problem) (status : ℕ)
    (line : List ℕ) → Means M S asked texts p → FormRefused p status line → Refused M R S asked texts status line
form-refused M R S asked texts p status line means (form_fault fault is e) =
    subst (λ n. Refused M R S asked texts n (problem_line fault)) e (for_problem p fault means is)
