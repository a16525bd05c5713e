use Rattle.std.proofs.Common.{◌≡◌, ◌/◌, ◌^◌, ◌<◌, length, refl, ap, arith}
use Rattle.sources.proofs.ReadGroups.{holds_parcel}
use Rattle.sources.proofs.laid_group.lay_out.Goals as goal

pub returns : goal.returns
returns g c =
    let bytes = g.R.RecordList.bytes c.args.records in
    let count = c.byte_count-count.result / 24 in
    let entries = c.leading_entries-entries.result in
    record {
      same = refl;
      holds =
          let all : c.byte_count-count.result ≡ length bytes = c.byte_count-count.ensures in
          let fits = c.byte_count-count.type_inv in
          let small : length bytes < 2 ^ 64 = omega arith in
          let left = c.saturating_sub-runs.ensures in
          holds_parcel bytes count entries c.saturating_sub-runs.result small (ap (λ n. n / 24) all) c.leading_entries-entries.ensures.leads (omega arith);
    }
