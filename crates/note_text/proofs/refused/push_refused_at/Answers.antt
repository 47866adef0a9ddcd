use Rattle.std.proofs.Common.{ℕ, ◌+◌, ◌-◌, ◌++◌, ap, take, ◌∙◌}
use Rattle.std.specs.List.{count_by}
use Rattle.note_text.specs.Places.{is_newline}
use Rattle.note_text.specs.Texts.{code_word, error_text, spot_text}
use Rattle.note_text.proofs.Beginning.{begins-place, on-ok}
use Rattle.note_text.proofs.refused.push_refused_at.Goals as goal

pub returns : goal.returns
returns c = on-ok c.push_excerpt.result c.push_excerpt.ensures (λ next.
    let refused = c.args.refused.now in
    let at = c.beginning.result in
    let place = c.place_at-place.result in
    let line : ℕ = 1 + count_by is_newline (take at refused.source.now) in
    record {
      at = at;
      within = c.beginning.ensures.within;
      is_at = c.beginning.ensures.is;
      start = place.start;
      is_start = c.place_at-place.ensures.start;
      begins = begins-place refused.name.now (spot_text line (at - place.start + 1)) (error_text (code_word refused.refusal.now.code))
          (c.in_ok-push_bytes.ensures ∙ ap (λ t. c.args.text.now.items ++ t) c.as_bytes.ensures.value)
          (c.in_ok-push_spot.ensures
          ∙ ap (λ n. c.push_bytes.new.text.items ++ spot_text n (place.at - place.start + 1)) c.place_at-place.ensures.line
          ∙ ap (λ n. c.push_bytes.new.text.items ++ spot_text line (n - place.start + 1)) c.place_at-place.ensures.at)
          c.in_ok-push_error.ensures next;
    })
