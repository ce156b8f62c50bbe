use Rattle.std.proofs.Common.{ap, ◌∙◌, w32, SFits, rules}
use Rattle.events.proofs.Decoding.{reading_is, cast_is}
use Rattle.events.specs.Record.{signed_32}
use Rattle.std.proofs.lemmas.Int.{to_z-of_z}
use Rattle.events.proofs.record.reading_bits.Goals as goal

pub returns : goal.returns
returns c =
    let fits : SFits w32 c.cast_signed.result = search rules in
    to_z-of_z w32 c.cast_signed.result fits ∙ c.cast_signed.ensures ∙ cast_is c.word.result c.word.type_inv ∙
    ap signed_32 (c.word.ensures ∙ reading_is c.args.bytes.now c.told-bytes c.fits-bytes c.args.i c.requires)
