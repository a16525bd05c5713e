use Rattle.std.proofs.Common.{◌∙◌, rules}
use Rattle.shelves.specs.Layout.{byte}
use Rattle.shelves.proofs.ReadLaws.{record_found, record_missing}
use Rattle.shelves.proofs.reading.read_record.Goals as goal

pub returns-in-Some : goal.returns-in-Some
returns-in-Some c =
    c.copy_out.ensures ∙ record_found (byte c.args.bytes.now c.args.round.room c.args.round.start) c.args.extent c.and_then.result c.in-Some.found c.args.index c.and_then.ensures (λ n. n) (λ e h. search rules) c.in-Some.is

pub returns-in_default : goal.returns-in_default
returns-in_default c = record_missing (byte c.args.bytes.now c.args.round.room c.args.round.start) c.args.extent c.and_then.result c.args.index c.and_then.ensures (λ n. n) (λ e h. search rules) c.in_default.is
