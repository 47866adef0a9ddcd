-- Scopes around a scope, and what names stand for when it is left.
use Rattle.std.proofs.Common.{◌≡◌, ◌≢◌, ℕ, ◌+◌, ◌<◌, Bool, true, false, List, [], ◌∷◌, ◌++◌, map, reverse, length, get_or, drop, Option, Some, None, is_some, refl, sym, ap, subst, ◌∙◌, arith}
use Rattle.std.specs.Prelude.{if◌then◌else◌, option_map, All, IfSome, Ok}
use Rattle.std.proofs.lemmas.Bool.{false≢true}
use Rattle.std.specs.Option.{option_or}
use Rattle.std.proofs.lemmas.Option.{none-some}
use Rattle.loc_base.proofs.ShelfLists.{drop-at}
use Rattle.v_sizes.specs.Context.{IsMeaning}
use Rattle.std.proofs.lemmas.List.{reverse-append}
use Rattle.std.proofs.lemmas.List.Elements.{All-nil, All-cons, All-weaker}
use Rattle.std.proofs.lemmas.Slice.Eq.{bytes_eq-Decides}
use Rattle.v_sizes.specs.declared.meaning.Meaning.{Meaning}
use Rattle.v_sizes.specs.Look.{Look}
use Rattle.v_sizes.specs.Table.{with_meaning, with_standing}
use Rattle.v_sizes.specs.Scopes.{look_of, has_entry}
use Rattle.v_sizes.specs.declared.scope.Scope.{Scope}
use Rattle.v_sizes.proofs.Scoped.{entry-of_meaning}
use Rattle.v_hierarchy.specs.declared.frame.Frame.{Frame}
use Rattle.v_hierarchy.specs.declared.standing.Entry.{Entry}
use Rattle.v_hierarchy.specs.Names as names
use Rattle.v_hierarchy.specs.Names.{Standing, same_name, find, find_in, look_in, meaning_of, declared}
use Rattle.v_hierarchy.specs.Views.{entry_of, standing_of}
use Rattle.v_hierarchy.specs.Frames.{names_of}
use Rattle.v_scopes.specs.Outer.{around}
use Rattle.v_hierarchy.proofs.FrameLaws.{declared-fresh}
use Rattle.v_hierarchy.proofs.DeclaredLaws.{same-itself, look-declared, own-declared, own-appended}

-- what each name stands for, as one function
pub same_look : (one other : Look) → ((name : List ℕ) → one name ≡ other name) → one ≡ other
same_look one other same = λ i name. same name i

-- one scope more, inside the others
pub around-push : (frames : List Frame) (frame : Frame) → around (frames ++ frame ∷ []) ≡ names_of frame ∷ around frames
around-push frames frame = ap (map names_of) (reverse-append frames (frame ∷ []))

-- what a name stands for once the names of a list are let stand for what they do in other scopes
abbrev pub restored : List names.Entry → Look → List ℕ → Option Meaning → Option Meaning
restored [] outside q m = m
restored (e ∷ es) outside q m = restored es outside q (if same_name e.name.name q then outside e.name.name else m)

restored-is : (es : List names.Entry) (outside : Look) (q : List ℕ) (m : Option Meaning) → restored es outside q m ≡ (if is_some (find q es) then outside q else m)
restored-is [] outside q m = refl
restored-is (e ∷ es) outside q m =
    restored-is es outside q (if same_name e.name.name q then outside e.name.name else m) ∙ step (same_name e.name.name q) refl (find q es)
  where
    step : (same : Bool) → same_name e.name.name q ≡ same → (o : Option Standing)
        → (if is_some o then outside q else if same then outside e.name.name else m) ≡ (if is_some (if same then Some e.standing else o) then outside q else m)
    step true same None = ap outside ((bytes_eq-Decides e.name.name q).0 same)
    step true same (Some s) = refl
    step false other o = refl

-- all names of a scope
pub restored-all : (es : List names.Entry) (outer : List (List names.Entry)) (q : List ℕ) (m : Option Meaning) → m ≡ look_in (es ∷ outer) q → restored es (look_in outer) q m ≡ look_in outer q
restored-all es outer q m is =
    restored-is es (look_in outer) q m ∙ ap (λ x. if is_some (find q es) then look_in outer q else x) is ∙ step (find q es)
  where
    step : (o : Option Standing) → (if is_some o then look_in outer q else option_map meaning_of (option_or o (find_in outer q))) ≡ look_in outer q
    step None = refl
    step (Some s) = refl

-- one name of a list
pub restored-step : (es : List Entry) (i : ℕ) (e : Entry) (outside : Look) (look after : Look) (m : Option Meaning) (q : List ℕ) → i < length es → e ≡ get_or es i e
    → m ≡ outside e.name.now.name → ((p : List ℕ) → after p ≡ with_standing e.name.now.name m look p)
    → restored (map entry_of (drop (i + 1) es)) outside q (after q) ≡ restored (map entry_of (drop i es)) outside q (look q)
restored-step es i e outside look after m q within is means set =
    ap (restored (map entry_of (drop (i + 1) es)) outside q) (set q ∙ ap (λ x. if same_name e.name.now.name q then x else look q) means)
    ∙ sym (ap (λ l. restored (map entry_of l) outside q (look q)) (drop-at es i e within is))

-- what is found stands for something
pub some-stands : (o : Option Meaning) → IfSome o IsMeaning → (m : Meaning) → o ≡ Some m → IsMeaning m
some-stands None h m e = absurd (none-some m e)
some-stands (Some x) h m e = let same : x ≡ m = cc in subst IsMeaning same h

-- each name of a scope is found there
is_behind : (x : names.Entry) (name : List ℕ) (es : List names.Entry) → is_some (find name es) ≡ true → is_some (find name (x ∷ es)) ≡ true
is_behind x name es some = step (same_name x.name.name name)
  where
    step : (same : Bool) → is_some (if same then Some x.standing else find name es) ≡ true
    step true = refl
    step false = some

all-found : (es : List Entry) → All (λ (e : Entry). is_some (find e.name.now.name (map entry_of es)) ≡ true) es
all-found [] = All-nil (λ (e : Entry). is_some (find e.name.now.name []) ≡ true)
all-found (x ∷ es) =
    All-cons (λ (e : Entry). is_some (find e.name.now.name (map entry_of (x ∷ es))) ≡ true) x es
    (ap (λ b. is_some (if b then Some (standing_of x.standing) else find x.name.now.name (map entry_of es))) (same-itself x.name.now.name))
    (All-weaker (λ (e : Entry). is_some (find e.name.now.name (map entry_of es)) ≡ true) (λ (e : Entry). is_some (find e.name.now.name (map entry_of (x ∷ es))) ≡ true)
    (λ e. is_behind (entry_of x) e.name.now.name (map entry_of es)) es (all-found es))

-- a name that is found inside others has an entry
pub entered : (meanings : Scope) (es : List names.Entry) (outer : List (List names.Entry)) (name : List ℕ) → ((q : List ℕ) → look_of meanings q ≡ look_in (es ∷ outer) q)
    → is_some (find name es) ≡ true → has_entry meanings name ≡ true
entered meanings es outer name looks some = step (find name es) refl some
  where
    step : (o : Option Standing) → find name es ≡ o → is_some o ≡ true → has_entry meanings name ≡ true
    step None is some = absurd (false≢true some)
    step (Some s) is some = entry-of_meaning meanings name (meaning_of s) (looks name ∙ ap (λ o. option_map meaning_of (option_or o (find_in outer name))) is)

pub all-entered : (meanings : Scope) (es : List Entry) (outer : List (List names.Entry)) → ((q : List ℕ) → look_of meanings q ≡ look_in (map entry_of es ∷ outer) q)
    → All (λ (e : Entry). has_entry meanings e.name.now.name ≡ true) es
all-entered meanings es outer looks =
    All-weaker (λ (e : Entry). is_some (find e.name.now.name (map entry_of es)) ≡ true) (λ (e : Entry). has_entry meanings e.name.now.name ≡ true)
    (λ e some. entered meanings (map entry_of es) outer e.name.now.name looks some) es (all-found es)

-- ---- a name more, and one that is declared again
pub looks-appended : (look after : Look) (new : names.Entry) (es more : List names.Entry) (outer : List (List names.Entry)) → ((q : List ℕ) → look q ≡ look_in (es ∷ outer) q)
    → ((q : List ℕ) → after q ≡ with_meaning new.name.name (meaning_of new.standing) look q) → find new.name.name es ≡ None → more ≡ es ++ new ∷ []
    → (q : List ℕ) → after q ≡ look_in (more ∷ outer) q
looks-appended look after new es more outer looks put none is q =
    put q ∙ ap (λ o. if same_name new.name.name q then Some (meaning_of new.standing) else o) (looks q)
    ∙ look-declared new es (es ++ new ∷ []) outer new.standing q (declared-fresh new es none) (own-appended new es none)
    ∙ ap (λ l. look_in (l ∷ outer) q) (sym is)

pub looks-declared : (look after : Look) (new : names.Entry) (es more : List names.Entry) (outer : List (List names.Entry)) (both : Option Meaning)
    → ((q : List ℕ) → look q ≡ look_in (es ∷ outer) q) → declared new es ≡ Ok more → both ≡ option_map meaning_of (find new.name.name more)
    → ((q : List ℕ) → after q ≡ with_standing new.name.name both look q) → (q : List ℕ) → after q ≡ look_in (more ∷ outer) q
looks-declared look after new es more outer both looks is found set q =
    let own = own-declared new es more is in
    let both_is : both ≡ Some (meaning_of own.standing) = found ∙ ap (option_map meaning_of) own.is in
    set q ∙ ap (λ b. if same_name new.name.name q then b else look q) both_is
    ∙ ap (λ o. if same_name new.name.name q then Some (meaning_of own.standing) else o) (looks q)
    ∙ look-declared new es more outer own.standing q is own.is

-- a meaning that is put and taken back
pub looks-undone : (look put after : Look) (name : List ℕ) (m : Meaning) (was : Option Meaning) → was ≡ look name
    → ((q : List ℕ) → put q ≡ with_meaning name m look q) → ((q : List ℕ) → after q ≡ with_standing name was put q) → (q : List ℕ) → after q ≡ look q
looks-undone look put after name m was is done undone q = undone q ∙ step (same_name name q) refl
  where
    step : (same : Bool) → same_name name q ≡ same → (if same then was else put q) ≡ look q
    step true same = is ∙ ap look ((bytes_eq-Decides name q).0 same)
    step false other = done q ∙ ap (λ b. if b then Some m else look q) other

-- an innermost scope that is left
pub looks_left : (look : Look) (frames after : List Frame) (last : Frame) → ((q : List ℕ) → look q ≡ look_in (around frames) q) → frames ≡ after ++ last ∷ []
    → (q : List ℕ) → look q ≡ look_in (names_of last ∷ around after) q
looks_left look frames after last looks is q = looks q ∙ ap (λ f. look_in f q) (ap around is ∙ around-push after last)

-- a declaration of a name that isn't there
pub declared_fresh : (new : names.Entry) (es more : List names.Entry) → find new.name.name es ≡ None → more ≡ es ++ new ∷ [] → declared new es ≡ Ok more
declared_fresh new es more none is = declared-fresh new es none ∙ ap Ok (sym is)
