-- Of whatever is asked of sets there is one list of minimal ones, and each front of it is a prefix.
use Rattle.std.proofs.Common.{ℕ, ◌≡◌, List, [], ◌∷◌, ◌++◌, length, ap, sym, ◌∙◌, arith, length-append}
use Rattle.std.proofs.lemmas.List.{append-nil}
use Rattle.std.specs.Prelude.{IsTrue, Contains}
use Rattle.loc_base.specs.Sets.{is_before}
use Rattle.loc_base.proofs.SetOrder.{is_before-strict}
use Rattle.loc_base.proofs.ShelfLists.{All-member}
use Rattle.design_core.specs.Works.{Groups}
use Rattle.design_core.specs.Listing.{IsEntryFor, IsListFor, IsFrontFor}
use Rattle.design_core.proofs.Lists.{prefix_of}

-- a list is a front
pub list-is_front : (Work : List ℕ → Type 0) (groups : Groups) (k : ℕ) (list : List (List ℕ))
    → IsListFor Work groups k list → IsFrontFor Work groups k list
list-is_front Work groups k list h =
    record { entries = h.entries; ordered = h.ordered; none_missing = λ set listed entry _ _. h.complete set entry }

-- a front is a prefix of the list
pub front-prefix : (Work : List ℕ → Type 0) (groups : Groups) (k : ℕ) (front list : List (List ℕ))
    → IsFrontFor Work groups k front → IsListFor Work groups k list → (rest : List (List ℕ)) × (list ≡ front ++ rest)
front-prefix Work groups k front list f l =
    prefix_of (λ one other. IsTrue (is_before one other)) is_before-strict front list f.ordered l.ordered
    (λ set member. l.complete set (All-member (IsEntryFor Work groups k) front set f.entries member))
    (λ set listed member at before. f.none_missing set listed (All-member (IsEntryFor Work groups k) list set l.entries member) at before)

-- a front that is as long as the list is the list
pub front-whole : (Work : List ℕ → Type 0) (groups : Groups) (k : ℕ) (front list : List (List ℕ))
    → IsFrontFor Work groups k front → IsListFor Work groups k list → length front ≡ length list → front ≡ list
front-whole Work groups k front list f l same = whole (front-prefix Work groups k front list f l)
  where
    whole : (rest : List (List ℕ)) × (list ≡ front ++ rest) → front ≡ list
    whole ([], e) = sym (e ∙ append-nil front)
    whole (set ∷ rest, e) = absurd (omega (arith, length-append front (set ∷ rest), ap length e))

-- a front that has every entry is a list
pub front-list : (Work : List ℕ → Type 0) (groups : Groups) (k : ℕ) (front : List (List ℕ))
    → IsFrontFor Work groups k front → ((set : List ℕ) → IsEntryFor Work groups k set → Contains front set) → IsListFor Work groups k front
front-list Work groups k front f complete = record { entries = f.entries; ordered = f.ordered; complete = complete }

-- there is one list
pub lists-same : (Work : List ℕ → Type 0) (groups : Groups) (k : ℕ) (one other : List (List ℕ))
    → IsListFor Work groups k one → IsListFor Work groups k other → one ≡ other
lists-same Work groups k one other h l =
    let here = front-prefix Work groups k one other (list-is_front Work groups k one h) l in
    let there = front-prefix Work groups k other one (list-is_front Work groups k other l) h in
    front-whole Work groups k one other (list-is_front Work groups k one h) l
    (omega (arith, length-append one here.0, length-append other there.0, ap length here.1, ap length there.1))
