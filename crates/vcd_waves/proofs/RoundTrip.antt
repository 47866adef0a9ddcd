-- The text of a wave holds its trace.
use Rattle.std.proofs.Common.{◌≡◌, ℕ, zero, suc, arith, ◌+◌, ◌≤◌, Option, Some, None, is_some, List, ◌++◌, length, refl, sym, ◌∙◌, ap, subst}
use Rattle.vcd_words.specs.Lines.{text_of}
use Rattle.vcd_reading.specs.Reading.{no_past}
use Rattle.vcd_traces.specs.Samples.{AreSamples}
use Rattle.vcd_waves.specs.declared.wave.Wave.{Wave}
use Rattle.vcd_waves.specs.declared.variable.Variable.{Variable}
use Rattle.vcd_waves.specs.declared.variable.Kind.TheVariants.{Freed}
use Rattle.vcd_waves.specs.Variables.{clock_of}
use Rattle.vcd_waves.specs.Lines.{Line, row_at, header_lines, cycle_lines, lines_before, wave_lines}
use Rattle.vcd_waves.specs.ReadBack.{IsReadable, HoldsTrace}
use Rattle.vcd_waves.specs.Runs.{Runs}
use Rattle.vcd_waves.proofs.RoundReading.{text_reads, runs_join}
use Rattle.vcd_waves.proofs.WordForms.{plain_word}
use Rattle.vcd_waves.proofs.HeaderDeeds.{headed}
use Rattle.vcd_waves.proofs.WholeHeader.{whole_declares, header_run, CanDeclare}
use Rattle.vcd_waves.proofs.Sites.{Known}
use Rattle.vcd_waves.proofs.PortOrder.{names_distinct, names_plain, plain_named, freed_named, as_many, listed_many, any_site}
use Rattle.vcd_waves.proofs.CycleRuns.{lines_of, cycles_run}
use Rattle.vcd_waves.proofs.Scenes.{Scene, variables, freed, all_variables, ports, sought, header, past, IsScene, can_run}
use Rattle.vcd_waves.proofs.Sampled.{scene, watches, events, cycles_are}
use Rattle.vcd_waves.proofs.TraceBack.{IsOf, sampled_trace}
use Rattle.vcd_waves.proofs.Refusals.{never_refused}

abbrev scene_of : Wave → Scene
scene_of w = scene w.top.now w.design.now (clock_of w) w.places.now (row_at w) w.trace.now.cycles

few_variables : (w : Wave) → IsReadable w → length (variables (scene_of w)) + length (freed (scene_of w)) ≤ 56335895
few_variables w is =
    let one = as_many w.design.now (clock_of w) in
    let two = listed_many w.design.now Freed 0 w.places.now in
    let few = is.few in
    omega (arith, one, two, few)

known_of : (w : Wave) → IsReadable w
    → Known w.design.now (clock_of w) (variables (scene_of w)) (freed (scene_of w)) (ports (scene_of w))
    (header (scene_of w))
known_of w is = record {
  declares = whole_declares w.top.now w.design.now (clock_of w) (variables (scene_of w)) (freed (scene_of w));
  distinct = names_distinct w.design.now (clock_of w) is.distinct;
  plain = names_plain w.design.now (clock_of w) is.names;
  site = any_site w.design.now (clock_of w) is.ports;
  few = few_variables w is;
}

is_scene : (w : Wave) → IsReadable w → IsScene (scene_of w)
is_scene w is = record {
  has = is.ports;
  known = known_of w is;
  samples = is.trace.samples;
  expected = is.trace.expected;
  some = is.some;
  most = is.most;
}

is_of : (w : Wave) → IsReadable w → IsOf (scene_of w) w.trace.now
is_of w is = record {
  cycles = refl;
  sample_count = is.trace.sample_count;
  expected_count = is.trace.expected_count;
  samples = λ t. refl;
  expected = λ t. refl;
}

-- ---- the reading
same_clock : {A : Type 0} (name : A → List ℕ) (o : Option A)
    → is_some o ≡ is_some (elim o [ None ↦ None | Some x ↦ Some (name x) ])
same_clock name None = refl
same_clock name (Some x) = refl

same_lines : (w : Wave) (vs : List Variable) (t : ℕ) → lines_of (is_some w.clock) vs (row_at w) t ≡ lines_before w vs t
same_lines w vs zero = refl
same_lines w vs (suc t) = ap (λ l. l ++ cycle_lines (is_some w.clock) vs (row_at w t) t) (same_lines w vs t)

lines_run : (w : Wave) (is : IsReadable w) (end : ℕ)
    → Runs (sought (scene_of w)) end no_past (wave_lines w) (past (scene_of w))
lines_run w is end =
    let s : Scene = scene_of w in
    let vs : List Variable = all_variables (scene_of w) in
    let first : List Line = header_lines w.top.now w.design.now (clock_of w) (variables s) (freed s) in
    let P : List Line → Type 0 = λ lines. Runs (sought (scene_of w)) end no_past
    (header_lines w.top.now w.design.now (clock_of w) (variables (scene_of w)) (freed (scene_of w)) ++ lines)
    (past (scene_of w)) in
    let same : lines_of (is_some (clock_of w)) vs (row_at w) s.cycles ≡ lines_before w vs s.cycles =
    ap (λ b. lines_of b vs (row_at w) s.cycles) (sym (same_clock (λ name. name.now) w.clock))
    ∙ same_lines w vs s.cycles in
    let can : CanDeclare w.top.now w.design.now (clock_of w) (variables s) (freed s) = record {
      top_word = plain_word w.top.now is.top;
      named = plain_named w.design.now (clock_of w) (variables s) (names_plain w.design.now (clock_of w) is.names);
      freed_named = freed_named w.design.now (clock_of w) 0 w.places.now;
      few = few_variables w is;
    } in
    subst P same
    (runs_join (sought s) end no_past first (lines_of (is_some (clock_of w)) vs (row_at w) s.cycles)
    (headed no_past (header s)) (past s)
    (header_run (sought s) end w.top.now w.design.now (clock_of w) (variables s) (freed s) can)
    (cycles_run (sought s) end (header s) (is_some (clock_of w)) vs (row_at w) s.cycles s.cycles
    (can_run s (is_scene w is)) (omega arith)))

pub round_trip : (w : Wave) → IsReadable w → HoldsTrace w (text_of (wave_lines w))
round_trip w is =
    let s : Scene = scene_of w in
    let text : List ℕ = text_of (wave_lines w) in
    let times = cycles_are w.top.now w.design.now (clock_of w) w.places.now (row_at w) w.trace.now.cycles (is_scene w is) in
    record {
      past = past (scene_of w);
      reads = text_reads (sought s) (length text) no_past (wave_lines w) (past s) (lines_run w is (length text)) 0;
      not_refused = never_refused s (is_scene w is);
      samples = subst (λ l. AreSamples (watches (scene_of w)) (events (scene_of w)) l w.trace.now) (sym times)
          (sampled_trace s (is_scene w is) w.trace.now (is_of w is));
    }

-- and so does a text that is the same
pub reads_back : (w : Wave) (text : List ℕ) → text ≡ text_of (wave_lines w) → IsReadable w → HoldsTrace w text
reads_back w text same is = subst (HoldsTrace w) (sym same) (round_trip w is)

pub ruleset round_laws = (reads_back)
