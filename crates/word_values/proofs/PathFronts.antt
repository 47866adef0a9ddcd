-- What begins with a text that ends in a hyphen begins with it as a path, too.
use Rattle.std.proofs.Common.{ℕ, suc, ◌≡◌, ◌&&◌, ◌||◌, ◌==◌, Bool, true, false, not, cond, if◌then◌else◌, List, [], ◌∷◌, ◌++◌, length, drop}
use Rattle.std.proofs.Common.{refl, ap, ap₂, sym, subst, ◌∙◌, append_assoc, arith, codes}
use Rattle.std.specs.Prelude.{nat_eq, slice_index}
use Rattle.std.specs.List.{filter, starts_with}
use Rattle.std.specs.Path.{cur_dir, first_piece, is_dot_at, is_name, later_pieces, leading_components, path_components}
use Rattle.std.specs.Path.{path_names, root_dir, slash}
use Rattle.std.specs.Str.{bytes_eq}
use Rattle.std.proofs.lemmas.Bool.{false≢true}
use Rattle.std.proofs.lemmas.Bool.Decides.{Decides-eqb, nat_tests}
use Rattle.std.proofs.lemmas.Slice.Eq.{bytes_eq-Decides, starts_is}
use Rattle.word_values.specs.Paths.{IsOtherPath, begin_parts, parts_of, path_begins, without_here}

-- the parts of one list are those of another, but that its last one may go on there, and more may follow
record Fronts (parts names : List (List ℕ)) : Type 0 where
  pub before : List (List ℕ)
  pub last : List ℕ
  pub more : List ℕ
  pub rest : List (List ℕ)
  pub parts_are : parts ≡ before ++ last ∷ []
  pub names_are : names ≡ before ++ (last ++ more) ∷ rest
  pub last_named : is_name last ≡ true
  pub more_named : is_name (last ++ more) ≡ true

-- one part before them
one-before : (part : List ℕ) (parts names : List (List ℕ)) → Fronts parts names → Fronts (part ∷ parts) (part ∷ names)
one-before part parts names fronts = record {
  before = part ∷ fronts.before;
  last = fronts.last;
  more = fronts.more;
  rest = fronts.rest;
  parts_are = ap (λ l. part ∷ l) fronts.parts_are;
  names_are = ap (λ l. part ∷ l) fronts.names_are;
  last_named = fronts.last_named;
  more_named = fronts.more_named;
}

-- which is kept or not
one-chosen : (kept : Bool) (part : List ℕ) (parts names : List (List ℕ)) → Fronts parts names
    → Fronts (cond kept (part ∷ parts) parts) (cond kept (part ∷ names) names)
one-chosen true part parts names fronts = one-before part parts names fronts
one-chosen false part parts names fronts = fronts

-- ---- a part with a hyphen leads somewhere
longer-named : (n : ℕ) (here : Bool) → here ≡ false → not ((suc n == 0) || here) ≡ true
longer-named n here e = grind (arith, nat_tests)

and-false : (test : Bool) → (test && false) ≡ false
and-false true = refl
and-false false = refl

hyphen-named : (before after : List ℕ) → is_name (before ++ 45 ∷ after) ≡ true
hyphen-named [] after = longer-named (length after) false refl
hyphen-named (b ∷ []) after = longer-named (length (45 ∷ after)) _ (and-false (b == 46))
hyphen-named (b ∷ c ∷ before) after = longer-named (length (c ∷ (before ++ 45 ∷ after))) _ (and-false (b == 46))

last-chosen : (kept kept_there : Bool) (piece after : List ℕ) (rest : List (List ℕ)) → kept ≡ true → kept_there ≡ true
    → is_name (piece ++ 45 ∷ []) ≡ true → is_name (piece ++ 45 ∷ after) ≡ true
    → Fronts (cond kept ((piece ++ 45 ∷ []) ∷ []) []) (cond kept_there ((piece ++ 45 ∷ after) ∷ rest) rest)
last-chosen false kept_there piece after rest e f g h = absurd (false≢true e)
last-chosen true false piece after rest e f g h = absurd (false≢true f)
last-chosen true true piece after rest e f g h = record {
  before = [];
  last = piece ++ 45 ∷ [];
  more = after;
  rest = rest;
  parts_are = refl;
  names_are = ap (λ l. l ∷ rest) (sym (append_assoc piece (45 ∷ []) after));
  last_named = g;
  more_named = subst (λ l. is_name l ≡ true) (sym (append_assoc piece (45 ∷ []) after)) h;
}

-- ---- the pieces between slashes, where one is begun
abbrev pieces : List ℕ → List ℕ → List (List ℕ)
pieces begun text = filter is_name ((begun ++ first_piece text) ∷ later_pieces text)

piece-step : (cut : Bool) (begun : List ℕ) (b : ℕ) (short long : List ℕ) → Fronts (pieces [] short) (pieces [] long)
    → Fronts (pieces (begun ++ b ∷ []) short) (pieces (begun ++ b ∷ []) long)
    → Fronts
    (filter is_name ((begun ++ (if cut then [] else b ∷ first_piece short))
    ∷ (if cut then first_piece short ∷ later_pieces short else later_pieces short)))
    (filter is_name ((begun ++ (if cut then [] else b ∷ first_piece long))
    ∷ (if cut then first_piece long ∷ later_pieces long else later_pieces long)))
piece-step true begun b short long after inside =
    one-chosen (is_name (begun ++ [])) (begun ++ []) (pieces [] short) (pieces [] long) after
piece-step false begun b short long after inside =
    subst (λ l. Fronts (filter is_name (l ∷ later_pieces short)) (filter is_name ((begun ++ b ∷ first_piece long) ∷ later_pieces long)))
    (append_assoc begun (b ∷ []) (first_piece short))
    (subst (λ l. Fronts (pieces (begun ++ b ∷ []) short) (filter is_name (l ∷ later_pieces long)))
    (append_assoc begun (b ∷ []) (first_piece long)) inside)

pieces-front : (begun text more : List ℕ) → Fronts (pieces begun (text ++ 45 ∷ [])) (pieces begun ((text ++ 45 ∷ []) ++ more))
pieces-front begun [] more =
    last-chosen (is_name (begun ++ 45 ∷ [])) (is_name (begun ++ 45 ∷ first_piece more)) begun (first_piece more)
    (filter is_name (later_pieces more)) (hyphen-named begun []) (hyphen-named begun (first_piece more)) (hyphen-named begun [])
    (hyphen-named begun (first_piece more))
pieces-front begun (b ∷ text) more =
    piece-step (b == slash) begun b (text ++ 45 ∷ []) ((text ++ 45 ∷ []) ++ more) (pieces-front [] text more)
    (pieces-front (begun ++ b ∷ []) text more)

-- ---- the root, and a first `.`
leading-same : (text more : List ℕ) → leading_components ((text ++ 45 ∷ []) ++ more) ≡ leading_components (text ++ 45 ∷ [])
leading-same [] more = refl
leading-same (b ∷ []) more = refl
leading-same (b ∷ c ∷ text) more = refl

either-false : (a b : Bool) → not (a || b) ≡ true → b ≡ false
either-false false false e = refl
either-false false true e = absurd (false≢true e)
either-false true b e = absurd (false≢true e)

named-not_here : (part : List ℕ) → is_name part ≡ true → bytes_eq part cur_dir ≡ false
named-not_here part named = either-false (length part == 0) (bytes_eq part cur_dir) named

not-here : (part : List ℕ) (rest : List (List ℕ)) → bytes_eq part cur_dir ≡ false → without_here (part ∷ rest) ≡ part ∷ rest
not-here part rest e = ap (λ (b : Bool). if b then rest else part ∷ rest) e

without-chosen : (here : Bool) (part : List ℕ) (parts names : List (List ℕ)) → Fronts parts names
    → Fronts (if here then parts else part ∷ parts) (if here then names else part ∷ names)
without-chosen true part parts names fronts = fronts
without-chosen false part parts names fronts = one-before part parts names fronts

without-front : (parts names before : List (List ℕ)) (last more : List ℕ) (rest : List (List ℕ)) → parts ≡ before ++ last ∷ []
    → names ≡ before ++ (last ++ more) ∷ rest → is_name last ≡ true → is_name (last ++ more) ≡ true
    → Fronts (without_here parts) (without_here names)
without-front parts names [] last more rest e f g h = record {
  before = [];
  last = last;
  more = more;
  rest = rest;
  parts_are = ap without_here e ∙ not-here last [] (named-not_here last g);
  names_are = ap without_here f ∙ not-here (last ++ more) rest (named-not_here (last ++ more) h);
  last_named = g;
  more_named = h;
}
without-front parts names (b ∷ before) last more rest e f g h =
    subst (λ ps. Fronts (without_here ps) (without_here names)) (sym e)
    (subst (λ ns. Fronts (without_here (b ∷ (before ++ last ∷ []))) (without_here ns)) (sym f)
    (without-chosen (bytes_eq b cur_dir) b (before ++ last ∷ []) (before ++ (last ++ more) ∷ rest)
    (record {
      before = before;
      last = last;
      more = more;
      rest = rest;
      parts_are = refl;
      names_are = refl;
      last_named = g;
      more_named = h;
    })))

lead-front : (root here : Bool) (parts names : List (List ℕ)) → Fronts parts names
    → Fronts (without_here ((if root then root_dir ∷ [] else (if here then cur_dir ∷ [] else [])) ++ parts))
    (without_here ((if root then root_dir ∷ [] else (if here then cur_dir ∷ [] else [])) ++ names))
lead-front true here parts names fronts = one-before root_dir parts names fronts
lead-front false true parts names fronts = fronts
lead-front false false parts names fronts =
    without-front parts names fronts.before fronts.last fronts.more fronts.rest fronts.parts_are fronts.names_are fronts.last_named
    fronts.more_named

parts-front : (text more : List ℕ) → Fronts (parts_of (text ++ 45 ∷ [])) (parts_of ((text ++ 45 ∷ []) ++ more))
unfolding path_components path_names
parts-front text more =
    let short = text ++ 45 ∷ [] in
    let long = short ++ more in
    subst (λ lead. Fronts (parts_of short) (without_here (lead ++ path_names long))) (sym (leading-same text more))
    (lead-front (slice_index short 0 == slash) (is_dot_at short 0) (path_names short) (path_names long) (pieces-front [] text more))

-- ---- the test
-- a list begins as a text does
starts-tells : (s p : List ℕ) → (starts_with nat_eq s p ≡ true → s ≡ p ++ drop (length p) s)
    × ((rest : List ℕ) → s ≡ p ++ rest → starts_with nat_eq s p ≡ true)
starts-tells s p = starts_is Decides-eqb s p (starts_with nat_eq s p) refl

same-and : (part : List ℕ) (test : Bool) → test ≡ true → (bytes_eq part part && test) ≡ true
same-and part test e = ap₂ (λ a b. a && b) ((bytes_eq-Decides part part).1 refl) e

begins-front : (before : List (List ℕ)) (last more : List ℕ) (rest : List (List ℕ))
    → begin_parts (before ++ last ∷ []) (before ++ (last ++ more) ∷ rest) ≡ true
begins-front [] last more rest = (starts-tells (last ++ more) last).1 more refl
begins-front (b ∷ []) last more rest = same-and b _ ((starts-tells (last ++ more) last).1 more refl)
begins-front (b ∷ c ∷ before) last more rest = same-and b _ (begins-front (c ∷ before) last more rest)

begins-fronts : (parts names : List (List ℕ)) → Fronts parts names → begin_parts parts names ≡ true
begins-fronts parts names fronts =
    subst (λ ps. begin_parts ps names ≡ true) (sym fronts.parts_are)
    (subst (λ ns. begin_parts (fronts.before ++ fronts.last ∷ []) ns ≡ true) (sym fronts.names_are)
    (begins-front fronts.before fronts.last fronts.more fronts.rest))

-- ---- waves
-- what begins with a prefix and a hyphen begins so as a path
pub path_begins-own : (prefix rest : List ℕ) → path_begins (prefix ++ codes "-") ((prefix ++ codes "-") ++ rest) ≡ true
path_begins-own prefix rest =
    begins-fronts (parts_of (prefix ++ codes "-")) (parts_of ((prefix ++ codes "-") ++ rest)) (parts-front prefix rest)

-- so a name that doesn't is the path of nothing that does
pub path_begins-other : (prefix name rest : List ℕ) → path_begins (prefix ++ codes "-") name ≡ false
    → IsOtherPath name ((prefix ++ codes "-") ++ rest)
path_begins-other prefix name rest none same =
    false≢true (sym none ∙ ap (begin_parts (parts_of (prefix ++ codes "-"))) same ∙ path_begins-own prefix rest)
