-- Private, for the functions inside this crate: the text that stands for the inputs, and a refusal of suspects.
use Rattle.std.specs.Prelude.{ℕ, ◌≡◌, ◌<◌, List, [], ◌++◌, codes, decimal}
use Rattle.std.specs.List.{flat_map}
use Rattle.std.specs.Option.{option_map_or}
use Rattle.hex.specs.Hex.{encode_lower}
use Rattle.loc_base.specs.declared.digest.Digest.{Digest}
use Rattle.run_digest.specs.Inputs.{joined, line, scope_lines, trace_line, zero_lines}
use Rattle.refusal.specs.Lines.{limit_line}
use Rattle.refusal.specs.declared.last_line.LastLine.{LastLine}
use Rattle.refusal.specs.declared.last_line.LastLine.TheVariants.{Line, Memory}
use Rattle.requests.specs.Asked.{WantedAsked}
use Rattle.load_problem.specs.Means.{most_suspects}

-- the text that stands for the inputs, the texts' digests being given
abbrev pub digest_text : WantedAsked → Digest → List Digest → List ℕ
digest_text asked design traces =
    codes "localise 1\n"
    ++ (line (codes "top") asked.sources.texts.top
    ++ (line (codes "clock") (option_map_or (λ name. name) asked.sources.clock [])
    ++ (line (codes "kinds") (joined asked.suspects)
    ++ (line (codes "size") (decimal asked.size)
    ++ (line (codes "design") (encode_lower design.bytes)
    ++ (flat_map trace_line traces
    ++ (scope_lines asked.sources.texts.scope ++ zero_lines asked.sources.texts.zero_inputs)))))))

-- there are too many suspects
abbrev pub HasTooMany : ℕ → LastLine → Type 0
HasTooMany count (Line status line) = (status ≡ 4) × (line.items ≡ limit_line (codes "Z4")) × (most_suspects < count)
HasTooMany count Memory = Unit {0}
