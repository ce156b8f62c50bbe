use Rattle.std.proofs.Common.{ℕ, ◌/◌, ◌^◌, ap, ◌∙◌}
use Rattle.events.proofs.Decoding.{kind_is}
use Rattle.events.proofs.record.kind_bits.Goals as goal

pub returns : goal.returns
returns c =
    ap (λ (m : ℕ). m / 2 ^ 28) c.word.ensures ∙ kind_is c.args.bytes.now c.told-bytes c.fits-bytes
