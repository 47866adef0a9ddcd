-- Private, for the functions inside this crate: what stands where the lines of traces were printed, by the status.
use Rattle.std.specs.Prelude.{ℕ, ◌≡◌, ◌⊎◌, Bool, List, ◌++◌, take}
use Rattle.io_ports.specs.Faults.{Rose}
use Rattle.io_ports.specs.Shelf.{AppendsFront}
use Rattle.refusal.specs.Lines.{memory_line}
use Rattle.sim_lines.specs.Lines.{Line, text_of}
use Rattle.sim_cmd.specs.Simulation.{IsAnswer, told_status}

-- 6: a front of them, or of some and `memory`
abbrev pub Fails : List Line → List ℕ → List ℕ → Type 0
Fails lines old new =
    AppendsFront (text_of lines) old new ⊎
    ((count : ℕ) × AppendsFront (text_of (take count lines) ++ memory_line) old new)

-- 7: some of them, and `memory` where there was memory for that
abbrev pub Ends : List Line → List ℕ → List ℕ → Type 0
Ends lines old new =
    (count : ℕ)
    × ((new ≡ old ++ text_of (take count lines)) ⊎ (new ≡ old ++ (text_of (take count lines) ++ memory_line)))

-- 0 or 9: all of them
abbrev pub EndsShown : Bool → List Line → List ℕ → List ℕ → ℕ → Type 0
EndsShown exit_code lines old new status =
    ((status ≡ told_status exit_code lines) × (new ≡ old ++ text_of lines))
    ⊎ (((status ≡ 6) × Fails lines old new) ⊎ ((status ≡ 7) × Ends lines old new))

-- the count of the sink's faults then
abbrev pub ShownCounts : Bool → ℕ → ℕ → ℕ → Type 0
ShownCounts exit_code old new status =
    (IsAnswer exit_code status × (new ≡ old)) ⊎ (((status ≡ 6) × Rose old new) ⊎ ((status ≡ 7) × (new ≡ old)))
