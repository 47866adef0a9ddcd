-- What says which texts are read: the name of the design's text and its format, the names of the top module and of the traces' texts, the
-- path of the scope that is read of these, where one is named, and whether their unknown inputs are 0.
use Rattle.std.specs.Prelude.{◌≡◌, ◌≤◌, true, ℕ, Bool, ◌&&◌, nat_le, List, length, Option, Some, None, codes}
use Rattle.std.specs.List.{list_all}
use Rattle.front_end.specs.declared.format.Format.{Format}
use Rattle.requests.specs.Asked.{TextsAsked}
use Rattle.word_values.specs.Arguments.{Row, all_of, first_of}
use Rattle.word_values.specs.Formats.{are_zero_inputs, format_of, format_word}
use Rattle.word_values.specs.Values.{is_file_name, is_name, option_all}

-- where each is given
abbrev pub sources_of : List Row → Option (List ℕ) → Option (List ℕ) → Option (List (List ℕ)) → Option TextsAsked
sources_of rows (Some design) (Some top) (Some traces) =
    Some (record {
      design = design;
      format = format_of (format_word rows);
      top = top;
      traces = traces;
      scope = first_of (codes "scope") rows;
      zero_inputs = are_zero_inputs rows;
    })
sources_of rows _ _ _ = None

abbrev pub sources_in : List Row → Option TextsAsked
sources_in rows = sources_of rows (first_of (codes "design") rows) (first_of (codes "top") rows) (all_of (codes "trace") rows)

-- the names are names, so is the path of the scope, and there are 1 to 256 traces
abbrev pub are_source_names : TextsAsked → Bool
are_source_names sources =
    is_file_name sources.design && is_name sources.top && list_all is_file_name sources.traces
    && nat_le 1 (length sources.traces) && nat_le (length sources.traces) 256 && option_all is_name sources.scope

-- the same, as facts
pub record AreSources (sources : TextsAsked) : Type 0 where
  pub design : is_file_name sources.design ≡ true
  pub top : is_name sources.top ≡ true
  pub traces : list_all is_file_name sources.traces ≡ true
  pub some : 1 ≤ length sources.traces
  pub most : length sources.traces ≤ 256
  pub scope : option_all is_name sources.scope ≡ true
