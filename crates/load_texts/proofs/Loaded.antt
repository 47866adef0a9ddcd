-- Texts that are loaded, and what they mean.
use Rattle.std.proofs.Common.{ℕ, zero, suc, ◌+◌, ◌≡◌, ◌≢◌, ◌<◌, ◌≤◌, List, [], ◌∷◌, ◌++◌, length, take, sym, refl}
use Rattle.std.proofs.Common.{ap, subst, arith, inl, inr, Option, Some, None, Result, Ok, Err}
use Rattle.std.specs.Prelude.{All, IfErr, IsErrAnd, IsSomeAnd, OnOk, slice_get}
use Rattle.std.specs.Option.{option_or}
use Rattle.std.proofs.lemmas.Bool.Decides.{nat_tests}
use Rattle.std.proofs.lemmas.List.{take_all}
use Rattle.std.proofs.lemmas.Option.{slice_get_within, get_or_from_slice_get}
use Rattle.loc_base.proofs.ShelfLists.{All-member, AllZip-push, Contains-at, take-at}
use Rattle.command_contract.specs.Contract.{Texts}
use Rattle.design_core.specs.declared.design.Design.{Design}
use Rattle.design_core.specs.declared.trace.Trace.{Trace}
use Rattle.vcd_reading.specs.declared.error.VcdErr.{VcdErr}
use Rattle.vcd_reading.specs.declared.error.VcdErr.TheVariants as vcd
use Rattle.design_core.specs.TraceFits.{IsTraceOf}
use Rattle.vcd_reading.specs.Scopes.{scope_of}
use Rattle.vcd_traces.specs.Samples.{HasSamples, IsRefused, Manner, cycle_refusal, cycles_of, sought_of, scope_refusal, width_refusal}
use Rattle.front_end.specs.Means.{Refuses, Refusing}
use Rattle.load_texts.specs.declared.faults.LoadFault.TheVariants as load
use Rattle.load_texts.specs.declared.faults.DesignFault.{DesignFault}
use Rattle.load_texts.specs.declared.faults.DesignFault.TheVariants as design
use Rattle.load_texts.specs.declared.faults.TraceFault.{TraceFault}
use Rattle.load_texts.specs.declared.faults.TraceFault.TheVariants as trace
use Rattle.load_texts.specs.By.{by_of, manner_asked}
use Rattle.requests.specs.Asked.{SourcesAsked}
use Rattle.load_texts.specs.Means.{AreKeptOf, IsKeptOf, IsReadAnd, IsReadOf, MeansTrace, MeanTraces, most_bytes, most_cycles}
use Rattle.load_texts.specs.Causes.{DesignCause, TraceCause}
use Rattle.load_texts.specs.Loading.{DesignSpared, HasTrace, TraceSpared}
use Rattle.load_texts.specs.Texts.{IsLoaded, KeepsNext, LoadsDesign, LoadsTrace, ReadsNext, RefusesDump, RefusesText}

-- ---- a text that was handed over
-- what holds of it
pub of-text : (o : Option (List ℕ)) (text : List ℕ) (P : List ℕ → Type 0) → IsLoaded o text → P text → IsReadAnd o P
of-text o text P loaded holds = subst (λ (x : Option (List ℕ)). IsReadAnd x P) (sym loaded.is) (loaded.short, holds)

pub in-text : (o : Option (List ℕ)) (text : List ℕ) (P : List ℕ → Type 0) → IsLoaded o text → IsReadAnd o P → P text
in-text o text P loaded holds = (subst (λ (x : Option (List ℕ)). IsReadAnd x P) loaded.is holds).1

-- none is both too long and short enough
not-both : (o : Option (List ℕ)) (P : List ℕ → Type 0) → IsSomeAnd o (λ bytes. most_bytes < length bytes)
    → IsReadAnd o P → ⊥
not-both (Some bytes) P long read = omega (arith, long, read.0)
not-both None P long read = long

-- ---- lists of traces
take-next : {X : Type 0} (xs : List X) (i : ℕ) (x : X) → slice_get xs i ≡ Some x → take (i + 1) xs ≡ take i xs ++ x ∷ []
take-next xs i x at = take-at xs i x (slice_get_within xs i x at) (sym (get_or_from_slice_get xs i x x at))

-- one trace more
pub one-more : (texts : Texts) (asked : SourcesAsked) (d : Design) (place : ℕ) (name : List ℕ) (traces : List Trace)
    (trace : Trace)
    → slice_get asked.texts.traces place ≡ Some name → MeansTrace texts (manner_asked asked) d name trace
    → MeanTraces texts (manner_asked asked) d (take place asked.texts.traces) traces
    → MeanTraces texts (manner_asked asked) d (take (place + 1) asked.texts.traces) (traces ++ trace ∷ [])
one-more texts asked d place name traces trace at means before =
    subst (λ names. MeanTraces texts (manner_asked asked) d names (traces ++ trace ∷ []))
    (sym (take-next asked.texts.traces place name at))
    (AllZip-push (MeansTrace texts (manner_asked asked) d) (take place asked.texts.traces) traces name trace before means)

pub no-trace : (texts : Texts) (asked : SourcesAsked) (d : Design) → MeanTraces texts (manner_asked asked) d (take 0 asked.texts.traces) []
no-trace texts asked d = at asked.texts.traces
  where
    at : (names : List (List ℕ)) → MeanTraces texts (manner_asked asked) d (take 0 names) []
    at [] = tt
    at (name ∷ names) = tt

-- a list with one element more, all of which are of a kind
pub fits-none : (d : Design) → All (IsReadOf d) []
fits-none d i x low = absurd (omega (arith, low))

pub fits-more : (d : Design) (traces : List Trace) (trace : Trace) → All (IsReadOf d) traces → IsReadOf d trace
    → All (IsReadOf d) (traces ++ trace ∷ [])
fits-more d [] trace all fits zero x low = fits
fits-more d [] trace all fits (suc i) x low = absurd (omega (arith, low))
fits-more d (first ∷ rest) trace all fits zero x low = all zero x (omega arith)
fits-more d (first ∷ rest) trace all fits (suc i) x low =
    fits-more d rest trace (λ j y h. all (suc j) y (omega (arith, h))) fits i x (omega (arith, low))

pub none-kept : {K : Type 0} (is_of : K → List ℕ → Type 0) (texts : Texts) (names : List (List ℕ))
    → AreKeptOf is_of texts (take 0 names) []
none-kept is_of texts [] = tt
none-kept is_of texts (name ∷ names) = tt

pub all-kept : {K : Type 0} (is_of : K → List ℕ → Type 0) (texts : Texts) (names : List (List ℕ)) (place : ℕ) (kept : List K)
    → length names ≤ place → AreKeptOf is_of texts (take place names) kept → AreKeptOf is_of texts names kept
all-kept is_of texts names place kept all are =
    subst (λ ns. AreKeptOf is_of texts ns kept) (take_all place names all) are

-- ---- a trace that was read has no more cycles than may be
second-none : {X : Type 0} (a b : Option X) → option_or a b ≡ None → b ≡ None
second-none (Some x) b e = absurd (cc)
second-none None b e = e

first-none : {X : Type 0} (a b : Option X) → option_or a b ≡ None → a ≡ None
first-none (Some x) b e = absurd (cc)
first-none None b e = refl

few-unrefused : (n : ℕ) → cycle_refusal n ≡ None → n ≤ most_cycles
few-unrefused n e = grind (arith, nat_tests)

pub few-cycles : (text : List ℕ) (d : Design) (manner : Manner) (found : Trace) → HasSamples text d manner found
    → found.cycles ≤ most_cycles
few-cycles text d manner found has =
    let past = has.past in
    let behind = second-none (scope_refusal (scope_of past.header (sought_of d manner))) _ has.not_refused in
    let counted = second-none (width_refusal past.header (sought_of d manner)) _ behind in
    let few : length (cycles_of d manner past) ≤ most_cycles =
    few-unrefused (length (cycles_of d manner past)) (first-none (cycle_refusal (length (cycles_of d manner past))) _ counted) in
    omega (arith, has.samples.cycles, few)

pub is-read : (text : List ℕ) (d : Design) (manner : Manner) (found : Trace) → HasSamples text d manner found
    → IsTraceOf d found → IsReadOf d found
is-read text d manner found has fits = record { fits = fits; few = few-cycles text d manner found has }

-- ---- causes, from what loads and readers say
pub text-cause : (R : Refusing) (asked : SourcesAsked) (texts : Texts) (text : List ℕ) → IsLoaded (texts asked.texts.design) text
    → (why : DesignFault)
    → RefusesText (R text (by_of asked)) why → DesignCause R asked texts why
text-cause R asked texts text is (design.Load _) cause = absurd cause
text-cause R asked texts text is (design.Text fault) cause =
    of-text (texts asked.texts.design) text (λ t. Refuses (R t (by_of asked)) fault) is cause

pub load-spared : (texts : Texts) (name : List ℕ) (P : List ℕ → Type 0) (why : DesignFault)
    → LoadsDesign (texts name) (Err why)
    → IsReadAnd (texts name) P → DesignSpared why
load-spared texts name P (design.Load load.Size) cause read = absurd (not-both (texts name) P cause read)
load-spared texts name P (design.Load load.Fault) cause read = inl refl
load-spared texts name P (design.Load load.NoMemory) cause read = inr refl
load-spared texts name P (design.Text fault) cause read = absurd cause

-- ---- traces
pub dump-cause : (texts : Texts) (name : List ℕ) (d : Design) (manner : Manner) (text : List ℕ)
    → IsLoaded (texts name) text
    → (why : TraceFault) → RefusesDump text d manner why → TraceCause (texts name) d manner why
dump-cause texts name d manner text is (trace.Load _) cause = absurd cause
dump-cause texts name d manner text is (trace.Text fault) cause =
    of-text (texts name) text (λ t. fault ≢ vcd.NoMemory → IsRefused t d manner fault) is cause

pub trace-spared : (texts : Texts) (name : List ℕ) (P : List ℕ → Type 0) (why : TraceFault)
    → LoadsTrace (texts name) (Err why)
    → IsReadAnd (texts name) P → TraceSpared why
trace-spared texts name P (trace.Load load.Size) cause read = absurd (not-both (texts name) P cause read)
trace-spared texts name P (trace.Load load.Fault) cause read = inl refl
trace-spared texts name P (trace.Load load.NoMemory) cause read = inr refl
trace-spared texts name P (trace.Text fault) cause read = absurd cause

-- a dump that has a trace is refused only for want of memory
pub dump-spared : (fault : VcdErr) → fault ≡ vcd.NoMemory → TraceSpared (trace.Text fault)
dump-spared fault e = subst (λ (f : VcdErr). TraceSpared (trace.Text f)) (sym e) (inr refl)

-- ---- the trace at a place
-- it is spared where each trace's text means one
pub next-spared : (texts : Texts) (asked : SourcesAsked) (d : Design) (place : ℕ) (name : List ℕ) (manner : Manner)
    (why : TraceFault)
    → slice_get asked.texts.traces place ≡ Some name → manner ≡ manner_asked asked
    → ((t : Trace) → MeansTrace texts manner d name t → TraceSpared why)
    → All (HasTrace texts asked d) asked.texts.traces → TraceSpared why
next-spared texts asked d place name manner why at is only all =
    let (found, means) = All-member (HasTrace texts asked d) asked.texts.traces name all
    (Contains-at asked.texts.traces place name at) in
    only found (subst (λ m. MeansTrace texts m d name found) (sym is) means)

-- how it is read, by the path of the scope that is handed over
abbrev pub manner_in : SourcesAsked → Option (List ℕ) → Manner
manner_in asked scope = record { clock = asked.clock; scope = scope; zero_inputs = asked.texts.zero_inputs }

pub manner-is : (asked : SourcesAsked) (scope : Option (List ℕ)) → scope ≡ asked.texts.scope → manner_in asked scope ≡ manner_asked asked
manner-is asked scope same = ap (manner_in asked) same

-- it is kept, or there is no memory for it
pub reads-next : {X : Type 0} (texts : Texts) (asked : SourcesAsked) (d : Design) (place : ℕ) (name : List ℕ)
    (old new : List Trace) (found : Trace)
    (r : Result X TraceFault) → slice_get asked.texts.traces place ≡ Some name → MeansTrace texts (manner_asked asked) d name found
    → OnOk r (new ≡ old ++ found ∷ []) → IfErr r (λ why. why ≡ trace.Load load.NoMemory)
    → ReadsNext texts asked d place old new r
reads-next texts asked d place name old new found (Ok x) at means kept fault = λ before.
    subst (MeanTraces texts (manner_asked asked) d (take (place + 1) asked.texts.traces)) (sym kept)
    (one-more texts asked d place name old found at means before)
reads-next texts asked d place name old new found (Err why) at means kept fault =
    (name, at, subst (λ (f : TraceFault). TraceCause (texts name) d (manner_asked asked) f) (sym fault) tt)

pub fits-next : {X : Type 0} (d : Design) (old new : List Trace) (found : Trace) (r : Result X TraceFault)
    → IsReadOf d found
    → OnOk r (new ≡ old ++ found ∷ []) → OnOk r (All (IsReadOf d) old → All (IsReadOf d) new)
fits-next d old new found (Ok x) fits kept =
    λ all. subst (All (IsReadOf d)) (sym kept) (fits-more d old found all fits)
fits-next d old new found (Err why) fits kept = tt

-- and so is what is kept of its text
pub keeps-next : {X K : Type 0} (is_of : K → List ℕ → Type 0) (texts : Texts) (asked : SourcesAsked) (place : ℕ) (name : List ℕ)
    (old new : List K) (kept : K) (r : Result X TraceFault)
    → slice_get asked.texts.traces place ≡ Some name → IsKeptOf is_of texts name kept → OnOk r (new ≡ old ++ kept ∷ [])
    → KeepsNext is_of texts asked place old new r
keeps-next is_of texts asked place name old new kept (Ok x) at is grew = λ before.
    subst (AreKeptOf is_of texts (take (place + 1) asked.texts.traces)) (sym grew)
    (subst (λ names. AreKeptOf is_of texts names (old ++ kept ∷ [])) (sym (take-next asked.texts.traces place name at))
    (AllZip-push (IsKeptOf is_of texts) (take place asked.texts.traces) old name kept before is))
keeps-next is_of texts asked place name old new kept (Err why) at is grew = tt

-- a fault that is passed on
pub passed_on : {X E : Type 0} (P : E → Type 0) (r : Result X E) (why : E) → IsErrAnd r (λ y. y ≡ why) → P why → IfErr r P
passed_on P (Ok x) why same fact = tt
passed_on P (Err y) why same fact = subst P (sym same) fact

-- the one at a place is refused
pub not-next : {X : Type 0} (texts : Texts) (asked : SourcesAsked) (d : Design) (place : ℕ) (name : List ℕ) (scope : Option (List ℕ))
    (old new : List Trace) (r : Result X TraceFault) (why : TraceFault)
    → slice_get asked.texts.traces place ≡ Some name → scope ≡ asked.texts.scope → IsErrAnd r (λ y. y ≡ why)
    → TraceCause (texts name) d (manner_in asked scope) why
    → ReadsNext texts asked d place old new r
not-next texts asked d place name scope old new (Ok x) why at is same cause = absurd same
not-next texts asked d place name scope old new (Err y) why at is same cause = (
  name,
  at,
  subst (λ (f : TraceFault). TraceCause (texts name) d (manner_asked asked) f) (sym same)
      (subst (λ (m : Manner). TraceCause (texts name) d m why) (manner-is asked scope is) cause),
)

pub ruleset load_rules = (load-spared, trace-spared, dump-spared, fits-none, no-trace, none-kept, all-kept, is-read)
