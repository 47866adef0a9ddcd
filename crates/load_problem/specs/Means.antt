-- What the texts mean: a problem (a design with the order of its drivers, traces of it, suspects), and the digest of the inputs.
use Rattle.std.specs.Prelude.{ℕ, ◌≡◌, ◌≤◌, List, [], ◌++◌, length, Some, codes, decimal}
use Rattle.std.specs.List.{AllZip, flat_map}
use Rattle.std.specs.Option.{option_map_or}
use Rattle.hex.specs.Hex.{encode_lower}
use Rattle.sha2.specs.Sha256.{sha256}
use Rattle.loc_base.specs.declared.digest.Digest.{Digest}
use Rattle.command_contract.specs.Contract.{Texts}
use Rattle.design_core.specs.declared.place.Place.{Place}
use Rattle.design_core.specs.Order.{IsLeastOrder}
use Rattle.suspect_map.specs.declared.group.Group.{Group}
use Rattle.front_end.specs.Means.{Meaning}
use Rattle.load_texts.specs.By.{manner_asked}
use Rattle.load_texts.specs.Means.{MeansDesign, MeanTraces}
use Rattle.debug_core.specs.Problems.{Problem}
use Rattle.run_digest.specs.Inputs.{joined, line, scope_lines, zero_lines}
use Rattle.requests.specs.Asked.{WantedAsked}

-- which suspects the kinds of these names make of a design's places, one kind's behind the other's
abbrev pub Suspecting : Type 0
Suspecting = List (List ℕ) → List Place → List Group

-- the most suspects
abbrev pub most_suspects : ℕ
most_suspects = 4096

-- the problem that the texts mean
pub record Means (M : Meaning) (S : Suspecting) (asked : WantedAsked) (texts : Texts) (p : Problem) : Type 0 where
  pub design : MeansDesign M asked.sources texts p.design
  pub order : IsLeastOrder p.design p.order
  pub groups : p.groups ≡ S asked.suspects p.design.places.items
  pub few_groups : length p.groups ≤ most_suspects
  pub traces : MeanTraces texts (manner_asked asked.sources) p.design asked.sources.texts.traces p.traces
  pub size : p.k ≡ asked.size

-- ---- the digest of the inputs
-- a line with the SHA-256 (FIPS 180-4) of a text, in lower-case hex digits
abbrev pub hash_line : List ℕ → List ℕ → List ℕ
hash_line word text = line word (encode_lower (sha256 text))

-- the text that stands for them: the words by which the design's text is read and of which a list is asked, the SHA-256 of each text, and
-- how the traces' are read, where that isn't by themselves
abbrev pub inputs_text : WantedAsked → List ℕ → List (List ℕ) → List ℕ
inputs_text asked design traces =
    codes "localise 1\n"
    ++ (line (codes "top") asked.sources.texts.top
    ++ (line (codes "clock") (option_map_or (λ name. name) asked.sources.clock [])
    ++ (line (codes "kinds") (joined asked.suspects)
    ++ (line (codes "size") (decimal asked.size)
    ++ (hash_line (codes "design") design
    ++ (flat_map (hash_line (codes "trace")) traces
    ++ (scope_lines asked.sources.texts.scope ++ zero_lines asked.sources.texts.zero_inputs)))))))

-- a digest is that of the texts under the names
pub record IsDigestOf (asked : WantedAsked) (texts : Texts) (digest : Digest) : Type 0 where
  pub design : List ℕ
  pub design_is : texts asked.sources.texts.design ≡ Some design
  pub traces : List (List ℕ)
  pub traces_are : AllZip (λ name text. texts name ≡ Some text) asked.sources.texts.traces traces
  pub is : digest.bytes ≡ sha256 (inputs_text asked design traces)
