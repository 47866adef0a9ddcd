-- What words ask of `find` is what a list may be asked.
use Rattle.std.proofs.Common.{ℕ, ◌≡◌, ◌≢◌, ◌⊎◌, Bool, true, false, List, [], ◌∷◌, ◌++◌, map, arith, refl, sym, subst, ap, ◌∙◌}
use Rattle.std.proofs.Common.{inl, inr, Some, None, Option}
use Rattle.std.specs.Prelude.{All, Contains, IfSome, nat_eq}
use Rattle.std.specs.Cmp.Lexicographic.{pointwise}
use Rattle.std.proofs.lemmas.Bool.{false≢true}
use Rattle.std.proofs.lemmas.List.{get_or_append_left, length-append}
use Rattle.std.proofs.lemmas.List.Elements.{All-head, All-tail}
use Rattle.loc_base.proofs.ShelfLists.{Contains-cons, Contains-empty}
use Rattle.suspect_map.specs.Choose.{named, unknown, unknown_or}
use Rattle.suspect_map.proofs.Steps.{same_name}
use Rattle.requests.specs.Asked.{FindAsked, ListingAsked, MakeAsked}
use Rattle.word_values.specs.Paths.{IsOtherPath}
use Rattle.word_values.proofs.SamePaths.{other_path-name}
use Rattle.command_words.specs.Find.{IsFindAsked, IsPrefix, other_names, read_names}
use Rattle.command_words.specs.Listing.{IsListingAsked}
use Rattle.command_words.specs.Session.{session_texts}
use Rattle.command_words.specs.Make.{IsMakeAsked}
use Rattle.set_waves.specs.Names.{IsNoWave}
use Rattle.list_writer.specs.CheckpointNames.{is_checkpoint}
use Rattle.list_writer.proofs.Asides.{begins-otherwise}
use Rattle.find_cmd.specs.Asked.{AreKnown, IsAsked, IsListing}
use Rattle.make_cmd.specs.Asked.{IsAsked as IsMakeable, finding_of as list_of}
use Rattle.localise_cmd.proofs.KindNames.{kind-names}

-- ---- kinds that are known
same-pointwise : (name : List ℕ) → pointwise nat_eq name name ≡ true
same-pointwise name = (same_name name name).1 refl

-- a name that some kind has
named-some : {G : Type 0} (called : G → List ℕ) (kinds : List G) (name : List ℕ) → Contains (map called kinds) name
    → (kind : G) × (named called kinds name ≡ Some kind)
named-some called [] name has = absurd (Contains-empty name has)
named-some called (kind ∷ kinds) name has =
    at (pointwise nat_eq (called kind) name) refl (Contains-cons (called kind) (map called kinds) name has)
    (named-some called kinds name)
  where
    at : (test : Bool) → pointwise nat_eq (called kind) name ≡ test → (called kind ≡ name) ⊎ Contains (map called kinds) name
        → (Contains (map called kinds) name → (k : _) × (named called kinds name ≡ Some k))
        → (k : _) × (named called (kind ∷ kinds) name ≡ Some k)
    at true is has later = (kind, rw is refl)
    at false is (inl same) later = absurd (false≢true (sym is ∙ ap (pointwise nat_eq (called kind)) (sym same) ∙ same-pointwise (called kind)))
    at false is (inr rest) later = let (k, found) = later rest in (k, rw is found)

unknown-step : {G : Type 0} (name : List ℕ) (found : Option G) (rest : Option (List ℕ)) (kind : G) → found ≡ Some kind
    → rest ≡ None → unknown_or name found rest ≡ None
unknown-step name found rest kind is none = rw (is, none) refl

pub unknown-none : {G : Type 0} (called : G → List ℕ) (kinds : List G) (names : List (List ℕ))
    → All (Contains (map called kinds)) names → unknown called kinds names ≡ None
unknown-none called kinds [] all = refl
unknown-none called kinds (name ∷ names) all =
    let (kind, found) = named-some called kinds name (All-head (Contains (map called kinds)) name names all) in
    unknown-step name (named called kinds name) (unknown called kinds names) kind found
    (unknown-none called kinds names (All-tail (Contains (map called kinds)) name names all))

-- ---- what is asked
-- a list
listing-held : (known : List (List ℕ)) (asked : ListingAsked) → IsListingAsked known asked → IsListing asked
listing-held known asked held = record {
  some_kinds = held.some_kinds;
  kind_names = kind-names asked.suspects held.kind_names;
  kinds_once = held.kinds_once;
  size = held.size;
  budget = held.budget;
  sets = held.sets;
  workers = held.workers;
}

-- no other name is that of a wave
waves-own : (words : FindAsked) (waves : Option (List ℕ)) → IfSome waves (IsPrefix words) → All (IsNoWave waves) (other_names words)
waves-own words None own = λ k d below. tt
waves-own words (Some prefix) own = λ k d below rest. other_path-name _ _ (own.own k d below rest)

-- what holds of all holds of the first
All-front : {A : Type 0} (P : A → Type 0) (xs ys : List A) → All P (xs ++ ys) → All P xs
All-front P xs ys all k d below =
    subst P (get_or_append_left xs ys d k below) (all k d (let more = length-append xs ys in omega (arith, below, more)))

-- a name that is another path than that of each text that is read is another name than those of the design and the traces
own-name : (words : FindAsked) (name : List ℕ) → All (λ other. IsOtherPath other name) (read_names words)
    → All (λ other. other ≢ name) (words.sources.texts.design ∷ words.sources.texts.traces)
own-name words name own =
    All-front (λ other. other ≢ name) (words.sources.texts.design ∷ words.sources.texts.traces) (session_texts words.resume)
    (λ k d below. other_path-name _ _ (own k d below))

-- the log and the report have no name of a checkpoint
checkpoints-own : (words : FindAsked) (checkpoints : Option (List ℕ)) → IfSome checkpoints (IsPrefix words)
    → All (λ name. is_checkpoint checkpoints name ≡ false) (other_names words)
checkpoints-own words None own = λ k d below. refl
checkpoints-own words (Some prefix) own = λ k d below. begins-otherwise prefix _ (λ rest. other_path-name _ _ (own.own k d below rest))

pub asked-held : (known : List (List ℕ)) (words : FindAsked) → IsFindAsked known words → IsAsked words
asked-held known words held = record {
  traces = (held.sources.texts.some, held.sources.texts.most);
  listing = listing-held known words.listing held.listing;
  apart = other_path-name _ _ held.apart;
  own_log = own-name words words.listing.log held.own_log;
  own_report = own-name words words.listing.report held.own_report;
  no_waves = All-front (IsNoWave words.waves)
      (words.sources.texts.design ∷ words.listing.log ∷ words.listing.report ∷ words.sources.texts.traces) (session_texts words.resume)
      (waves-own words words.waves held.waves);
  log_beside = checkpoints-own words words.checkpoints held.checkpoints 1 [] (omega arith);
  report_beside = checkpoints-own words words.checkpoints held.checkpoints 2 [] (omega arith);
}

pub known-held : {G : Type 0} (called : G → List ℕ) (kinds : List G) (words : FindAsked) → IsFindAsked (map called kinds) words
    → AreKnown called kinds words
known-held called kinds words held = unknown-none called kinds words.listing.suspects held.listing.known_kinds

pub make-held : (known : List (List ℕ)) (words : MakeAsked) → IsMakeAsked known words → IsMakeable words
make-held known words held = record {
  number = held.number;
  listing = listing-held known words.listing held.listing;
  apart = λ i j d before below. other_path-name _ _ (held.names_once i j d before below);
}

pub make_known-held : {G : Type 0} (called : G → List ℕ) (kinds : List G) (words : MakeAsked) → IsMakeAsked (map called kinds) words
    → AreKnown called kinds (list_of words)
make_known-held called kinds words held = unknown-none called kinds words.listing.suspects held.listing.known_kinds
