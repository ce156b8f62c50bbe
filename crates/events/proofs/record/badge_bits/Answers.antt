use Rattle.std.proofs.Common.{ℕ, ◌%◌, ◌^◌, ap, ◌∙◌}
use Rattle.events.proofs.Decoding.{badge_is, badge_number}
use Rattle.events.proofs.record.badge_bits.Goals as goal

pub returns : goal.returns
returns c =
    badge_number _ _ c.in-Ok.ensures ∙ ap (λ (m : ℕ). m % 2 ^ 28) c.word.ensures ∙
    badge_is c.args.bytes.now c.told-bytes c.fits-bytes
