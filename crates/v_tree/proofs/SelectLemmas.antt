-- Selects of their own: what reading finds, and that it looks no farther than the token behind them.
use Rattle.std.proofs.Common.{◌≡◌, ℕ, ◌+◌, ◌<◌, ◌≤◌, ◌∙◌, List, length, Ok, ap, sym, subst}
use Rattle.v_lexer.specs.Lexeme.{Lexeme}
use Rattle.v_syntax.specs.Tree.{Selection, Selections}
use Rattle.v_tree.specs.Reading.{Readers, readers, below, select_at, selects_at}
use Rattle.v_lexer.specs.declared.types.terminal.Terminal.TheVariants as marks
use Rattle.v_tree.specs.Marks.{mark_at}
use Rattle.v_tree.proofs.StepLemmas.{below_less}
use Rattle.v_tree.proofs.SoundLemmas.{SoundReader, SoundSelect, SoundSelects, sound_readers, select-sound, selects-sound}
use Rattle.v_tree.proofs.SteadyLemmas.{SteadyReader, SteadyUnder, SelectsClaim, Steady, steady_readers, st_select, st_selects, below_moves}

sound_within : (t : List Lexeme) (d n : ℕ) → n + 1 ≡ d → SoundReader t n (below t d).whole
sound_within t d n e levels_left a x b is =
    let read : (readers t n).whole levels_left a ≡ Ok (x, b) = sym (ap (λ (r : Readers). r.whole levels_left a) (below_less t d n e)) ∙ is in
    ((sound_readers t n).wholes levels_left a x b read).sound

pub selects_found : (t : List Lexeme) (d levels_left n a : ℕ) (xs : Selections) (b : ℕ) → selects_at t d (below t d).whole levels_left n a ≡ Ok (xs, b) → SoundSelects t d levels_left n xs a b
selects_found t d levels_left n a xs b e = selects-sound t d (below t d).whole (sound_within t d) levels_left n a xs b e

pub select_found : (t : List Lexeme) (d levels_left a : ℕ) (x : Selection) (b : ℕ) → mark_at t a ≡ marks.OpenBracket → select_at t d (below t d).whole levels_left a ≡ Ok (x, b) → SoundSelect t d levels_left x a b
select_found t d levels_left a x b m e = select-sound t d (below t d).whole (sound_within t d) levels_left a x b m e

steady_within : (base : ℕ) (t u : List Lexeme) (d : ℕ) → SteadyUnder base t u d (below t d).whole (below u d).whole
steady_within base t u d n e =
    let here : SteadyReader base t u n (readers t n).whole (readers u n).whole = (steady_readers base t u n).wholes in
    subst (λ (r : Readers). SteadyReader base t u n r.whole (below u d).whole) (sym (below_less t d n e))
    (subst (λ (r : Readers). SteadyReader base t u n (readers t n).whole r.whole) (sym (below_less u d n e)) here)

pub steady_selects : (base : ℕ) (t u : List Lexeme) (d levels_left n : ℕ) → SelectsClaim base t u d (below t d).whole (below u d).whole levels_left n
steady_selects base t u d levels_left n = st_selects base t u d (below t d).whole (below u d).whole (steady_within base t u d) (below_moves t d) levels_left n

pub steady_select : (base : ℕ) (t u : List Lexeme) (d levels_left a : ℕ) → a < length t → mark_at t a ≡ marks.OpenBracket → base + 256 ≤ a + d → base + 4096 ≤ a + levels_left
    → Steady base t u a (select_at t d (below t d).whole levels_left a) (select_at u d (below u d).whole levels_left a)
steady_select base t u d levels_left a h m deep far = st_select base t u d (below t d).whole (below u d).whole (steady_within base t u d) (below_moves t d) levels_left a h m deep far
