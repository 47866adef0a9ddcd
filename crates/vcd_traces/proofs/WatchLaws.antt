-- What is sampled is that of the ports, in their order.
use Rattle.std.proofs.Common.{◌≡◌, ℕ, ◌<◌, Bool, IsTrue, List, length, map, take, drop, sym, ◌∙◌, ap, subst, Option, Some, None}
use Rattle.std.specs.Prelude.{slice_get}
use Rattle.std.specs.List.{All, list_all}
use Rattle.std.specs.Option.{option_map, IfSome}
use Rattle.std.proofs.lemmas.List.{take-map, drop-map}
use Rattle.std.proofs.lemmas.List.Elements.{All-take, All-drop}
use Rattle.vcd_reading.specs.Header.{Header}
use Rattle.vcd_reading.specs.Scopes.{Sought, code_of}
use Rattle.vcd_traces.specs.declared.moment as code
use Rattle.vcd_traces.specs.declared.rows.Watched.{Watched}
use Rattle.vcd_traces.specs.declared.sites.Site.{Site}
use Rattle.vcd_traces.specs.Samples.{watch_of}
use Rattle.vcd_traces.specs.Plan.{cell_code, watch_in, has_cell, IsWatched}
use Rattle.vcd_traces.specs.Sites.{site_port, watches_from, IsSite}

-- what the cells of some ports say
abbrev pub AreCells : Header → Sought → List (List ℕ) → List Site → List code.Watch.Watch → Type 0
AreCells h sought cells sites watches =
    (map (watch_in cells) watches ≡ map (watch_of h sought) (map site_port sites)) × IsTrue (list_all (has_cell cells) watches)

if_some : {X : Type 0} (P : X → Type 0) (o : Option X) (x : X) → IfSome o P → o ≡ Some x → P x
if_some P None x fact is = cc
if_some P (Some y) x fact is = let same : y ≡ x = cc in subst P same fact

pub watched_are : (h : Header) (sought : Sought) (cells : List (List ℕ)) (sites first rest second last : List Site) (n m : ℕ) (watched : Watched) (zero : Bool)
    → first ≡ take n sites → rest ≡ drop n sites → second ≡ take m rest → last ≡ drop m rest → All (IsSite h sought) sites
    → (All (IsSite h sought) first → AreCells h sought cells first watched.inputs.items)
    → (All (IsSite h sought) second → AreCells h sought cells second watched.outputs.items)
    → (All (IsSite h sought) last → option_map (code_of h sought) (slice_get (map site_port last) 0) ≡ option_map (cell_code cells) watched.clock)
    → (All (IsSite h sought) last → IfSome watched.clock (λ cell. cell < length cells))
    → zero ≡ watched.zero_inputs → IsWatched (watches_from h sought zero n m (map site_port sites)) cells watched
watched_are h sought cells sites first rest second last n m watched zero is_first is_rest is_second is_last all inputs outputs clock within same =
    let P : List Site → Type 0 = All (IsSite h sought) in
    let all_first : P first = subst P (sym is_first) (All-take (IsSite h sought) n sites all) in
    let all_rest : P rest = subst P (sym is_rest) (All-drop (IsSite h sought) n sites all) in
    let all_second : P second = subst P (sym is_second) (All-take (IsSite h sought) m rest all_rest) in
    let all_last : P last = subst P (sym is_last) (All-drop (IsSite h sought) m rest all_rest) in
    let behind : drop n (map site_port sites) ≡ map site_port rest = drop-map site_port n sites ∙ ap (map site_port) (sym is_rest) in
    record {
      clock =
          ap (λ l. option_map (code_of h sought) (slice_get l 0)) (ap (drop m) behind ∙ drop-map site_port m rest ∙ ap (map site_port) (sym is_last))
          ∙ clock all_last;
      clock_cell = λ cell is. if_some (λ k. k < length cells) watched.clock cell (within all_last) is;
      inputs = ap (map (watch_of h sought)) (take-map site_port n sites ∙ ap (map site_port) (sym is_first)) ∙ sym (inputs all_first).0;
      outputs =
          ap (map (watch_of h sought)) (ap (take m) behind ∙ take-map site_port m rest ∙ ap (map site_port) (sym is_second)) ∙ sym (outputs all_second).0;
      input_cells = (inputs all_first).1;
      output_cells = (outputs all_second).1;
      zero_inputs = same;
    }
