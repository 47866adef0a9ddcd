-- The digest of the inputs is that of the texts' digests.
use Rattle.std.proofs.Common.{ℕ, ◌≡◌, List, [], ◌∷◌, ◌++◌, ap, refl, ◌∙◌, Option, Some, None, codes, decimal}
use Rattle.std.specs.List.{AllZip, flat_map}
use Rattle.std.specs.Option.{option_map_or}
use Rattle.hex.specs.Hex.{encode_lower}
use Rattle.sha2.specs.Sha256.{sha256}
use Rattle.loc_base.specs.declared.digest.Digest.{Digest}
use Rattle.command_contract.specs.Contract.{Texts}
use Rattle.run_digest.specs.Inputs.{joined, line, scope_lines, trace_line, zero_lines}
use Rattle.load_texts.specs.Means.{AreKeptOf, IsKeptOf, IsReadAnd}
use Rattle.requests.specs.Asked.{WantedAsked}
use Rattle.load_problem.specs.Within.{digest_text}
use Rattle.load_problem.specs.Means.{IsDigestOf, hash_line, inputs_text}

-- ---- what is kept of a text
abbrev pub IsSum : Digest → List ℕ → Type 0
IsSum digest text = digest.bytes ≡ sha256 text

-- a text that is there, with its digest
pub record TextOf (texts : Texts) (name : List ℕ) (digest : Digest) : Type 0 where
  pub text : List ℕ
  pub is : texts name ≡ Some text
  pub sum : IsSum digest text

text-of_option : (texts : Texts) (name : List ℕ) (digest : Digest) (o : Option (List ℕ)) → texts name ≡ o → IsReadAnd o (IsSum digest)
    → TextOf texts name digest
text-of_option texts name digest (Some text) e kept = record { text = text; is = e; sum = kept.1 }
text-of_option texts name digest None e kept = absurd kept

pub text-of : (texts : Texts) (name : List ℕ) (digest : Digest) → IsKeptOf IsSum texts name digest → TextOf texts name digest
text-of texts name digest kept = text-of_option texts name digest (texts name) refl kept

-- the texts under names, with the lines of their digests
pub record TextsOf (texts : Texts) (names : List (List ℕ)) (digests : List Digest) : Type 0 where
  pub found : List (List ℕ)
  pub are : AllZip (λ name text. texts name ≡ Some text) names found
  pub lines : flat_map trace_line digests ≡ flat_map (hash_line (codes "trace")) found

pub texts-of : (texts : Texts) (names : List (List ℕ)) (digests : List Digest) → AreKeptOf IsSum texts names digests
    → TextsOf texts names digests
texts-of texts [] [] kept = record { found = []; are = tt; lines = refl }
texts-of texts [] (digest ∷ digests) kept = absurd kept
texts-of texts (name ∷ names) [] kept = absurd kept
texts-of texts (name ∷ names) (digest ∷ digests) kept =
    let first = text-of texts name digest kept.0 in
    let rest = texts-of texts names digests kept.1 in
    record {
      found = first.text ∷ rest.found;
      are = (first.is, rest.are);
      lines = ap (λ bytes. line (codes "trace") (encode_lower bytes) ++ flat_map trace_line digests) first.sum
          ∙ ap (λ more. hash_line (codes "trace") first.text ++ more) rest.lines;
    }

-- ---- all of them
pub is-digest : (asked : WantedAsked) (texts : Texts) (design : Digest) (traces : List Digest) (digest : Digest)
    → IsKeptOf IsSum texts asked.sources.texts.design design → AreKeptOf IsSum texts asked.sources.texts.traces traces
    → digest.bytes ≡ sha256 (digest_text asked design traces) → IsDigestOf asked texts digest
is-digest asked texts design traces digest of_design of_traces is =
    let one = text-of texts asked.sources.texts.design design of_design in
    let all = texts-of texts asked.sources.texts.traces traces of_traces in
    record {
      design = one.text;
      design_is = one.is;
      traces = all.found;
      traces_are = all.are;
      is = is ∙ ap (λ text. sha256 text) (same one all);
    }
  where
    same : (one : TextOf texts asked.sources.texts.design design) (all : TextsOf texts asked.sources.texts.traces traces)
        → digest_text asked design traces ≡ inputs_text asked one.text all.found
    same one all =
        let texts_asked = asked.sources.texts in
        ap (λ (bytes : List ℕ). codes "localise 1\n"
        ++ (line (codes "top") asked.sources.texts.top
        ++ (line (codes "clock") (option_map_or (λ name. name) asked.sources.clock [])
        ++ (line (codes "kinds") (joined asked.suspects)
        ++ (line (codes "size") (decimal asked.size)
        ++ (line (codes "design") (encode_lower bytes)
        ++ (flat_map trace_line traces ++ (scope_lines texts_asked.scope ++ zero_lines texts_asked.zero_inputs)))))))) one.sum
        ∙ ap (λ (more : List ℕ). codes "localise 1\n"
        ++ (line (codes "top") asked.sources.texts.top
        ++ (line (codes "clock") (option_map_or (λ name. name) asked.sources.clock [])
        ++ (line (codes "kinds") (joined asked.suspects)
        ++ (line (codes "size") (decimal asked.size)
        ++ (hash_line (codes "design") one.text
        ++ (more ++ (scope_lines texts_asked.scope ++ zero_lines texts_asked.zero_inputs)))))))) all.lines
