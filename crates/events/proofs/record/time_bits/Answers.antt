use Rattle.std.proofs.Common.{◌+◌, ◌*◌, ◌/◌, ◌%◌, ◌^◌, ◌∙◌}
use Rattle.events.proofs.Decoding.{time_is}
use Rattle.events.proofs.record.time_bits.Goals as goal

pub returns : goal.returns
returns c =
    let high = c.word.ensures in
    let low = c.word-2.ensures in
    (λ i. high i % 2 ^ 28 * 2 ^ 4 + low i / 2 ^ 28) ∙ time_is c.args.bytes.now c.told-bytes c.fits-bytes
