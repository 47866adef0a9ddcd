use Rattle.std.proofs.Common.{◌≡◌, ◌+◌, ◌∷◌, [], ◌∙◌, ℕ, List, Err, ap, subst}
use Rattle.std.proofs.lemmas.Result.{err_from_is_err_and}
use Rattle.write_order.specs.Writes.{AreDone, Leaves, begin_text, on_shelf, put_piece}
use Rattle.write_order.proofs.Carried.{leaves-then}
use Rattle.set_waves.specs.declared.waves.Waves.{Waves}
use Rattle.set_waves.specs.Names.{wave_name}
use Rattle.set_waves.specs.Scenes.{wave_text}
use Rattle.set_waves.specs.Waved.{waved_of}
use Rattle.set_waves.specs.Writes.{scene_of}
use Rattle.set_waves.proofs.WriteLaws.{fails-within}
use Rattle.set_waves.proofs.writer.Writer.put_wave.Goals as goal

pub returns-in_err-begin_text-clause-left : goal.returns-in_err-begin_text-clause-left
returns-in_err-begin_text-clause-left g c =
    let p = err_from_is_err_and c.from_residual.result c.from_residual.ensures.1 in
    rw (p.1, p.2) (λ told trace run printed at is-run.
    let j : ℕ = c.args.shown.now.trace in
    let name : List ℕ = wave_name c.args.self.now.waves.prefix.now c.args.number (j + 1) in
    let text : List ℕ = wave_text (scene_of (waved_of c.args.self.now.waves) c.args.shown.now.values.now j trace) run in
    let named : c.as_str.result.now ≡ name =
    c.as_str.ensures.value ∙ c.in-Ok-wave_name.ensures
    ∙ ap (λ (w : Waves). wave_name w.prefix.now c.args.number (j + 1)) c.in-Ok.ensures.waves in
    let o = on_shelf (g.S.Shelf.written c.args.shelf.now) (g.S.Shelf.written c.begin_text.new.shelf) printed in
    fails-within (begin_text name ∷ []) (put_piece name text ∷ []) o c.in_err-begin_text.field-0.0
    (subst (λ (n : List ℕ). Leaves {X = Unit {0}} (begin_text n ∷ []) o (Err c.in_err-begin_text.field-0.0)) named
    (c.in_err-begin_text.ensures.left told printed)))

pub returns-clause-left : goal.returns-clause-left
returns-clause-left g c = λ told trace run printed at is-run.
    let j : ℕ = c.args.shown.now.trace in
    let name : List ℕ = wave_name c.args.self.now.waves.prefix.now c.args.number (j + 1) in
    let text : List ℕ = wave_text (scene_of (waved_of c.args.self.now.waves) c.args.shown.now.values.now j trace) run in
    let made = c.in-Ok-wave_name.ensures
    ∙ ap (λ (w : Waves). wave_name w.prefix.now c.args.number (j + 1)) c.in-Ok.ensures.waves in
    let named : c.as_str.result.now ≡ name = c.as_str.ensures.value ∙ made in
    let named-2 : c.as_str-2.result.now ≡ name = c.as_str-2.ensures.value ∙ made in
    let texted : c.as_slice.result.now ≡ text = c.as_slice.ensures ∙ c.in-Ok.ensures.text trace run at is-run in
    let w0 = g.S.Shelf.written c.args.shelf.now in
    let w1 = g.S.Shelf.written c.begin_text.new.shelf in
    let w2 = g.S.Shelf.written c.put_piece.new.shelf in
    leaves-then {X = Unit {0}} (begin_text name ∷ []) (put_piece name text ∷ []) w0 w1 w2 printed printed printed c.put_piece.result
    (subst (λ (n : List ℕ). AreDone (begin_text n ∷ []) (on_shelf w0 w1 printed)) named (c.in_ok-begin_text.ensures.left told printed))
    (subst (λ (n : List ℕ). Leaves (put_piece n text ∷ []) (on_shelf w1 w2 printed) c.put_piece.result) named-2
    (subst (λ (t : List ℕ). Leaves (put_piece c.as_str-2.result.now t ∷ []) (on_shelf w1 w2 printed) c.put_piece.result) texted
    (c.put_piece.ensures.left (c.in_ok-begin_text.ensures.tells ∙ told) printed)))
