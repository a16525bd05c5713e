-- A record written into memory.
use Rattle.std.proofs.Common.{◌≡◌, ℕ, ◌+◌, ◌-◌, ◌*◌, ◌/◌, ◌<◌, ltb, List, ◌++◌, length, take, sym, ap, ◌∙◌, ap₂, arith}
use borrow.Rule.Slice.PartMut.{put_mid}
use Rattle.std.proofs.lemmas.List.{drop-drop}
use Rattle.std.proofs.lemmas.Bool.{cond-true, lt-ltb}
use Rattle.records.specs.declared.record.Record.{Record}
use Rattle.records.specs.Records.{encoded}
use Rattle.records.specs.Written.{with_record}

pub written_in : (memory bytes : List ℕ) (n : ℕ) (r : Record) → n < length memory / 24 → bytes ≡ encoded r → put_mid (24 * n) ((24 * n + 24) - 24 * n) memory bytes ≡ with_record memory n r
written_in memory bytes n r l e =
    let k : (24 * n + 24) - 24 * n ≡ 24 = omega arith in
    ap₂ (λ j bs. put_mid (24 * n) j memory bs) k e
    ∙ ap (λ rest. take (24 * n) memory ++ (encoded r ++ rest)) (drop-drop 24 (24 * n) memory)
    ∙ sym (cond-true (ltb n (length memory / 24)) _ memory (lt-ltb n (length memory / 24) l))
