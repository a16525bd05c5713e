use Rattle.std.proofs.Common.{◌≡◌, ◌+◌, false, [], ◌∷◌, take, MatchOption, refl, sym, ap, ◌∙◌, subst, arith}
use Rattle.std.specs.List.{insert}
use Rattle.tables.specs.Rows.{usable, lead, Falls, ahead, other, first_at}
use Rattle.tables.proofs.Lead.{some_used, none_used}
use Rattle.tables.proofs.RowLaws.{falls}
use Rattle.tables.proofs.Shift.{drop_further}
use Rattle.tables.proofs.Putting.{Putting, row, joined_answer, joined_after, refused_answer, refused_after, inserted_answer, inserted_after, orderly_after}
use Rattle.tables.proofs.table.TableDotStore.put.Goals as goal

pub invariant_of-self : goal.invariant_of-self
invariant_of-self g c =
    let t = c.args.self.now in
    let code : g.K.Kind.code c.in_ok-value.value ≡ c.args.entry.value = subst (λ o. MatchOption o (g.K.Kind.kind.fits c.args.entry.value ≡ false) (λ v. g.K.Kind.code v ≡ c.args.entry.value)) c.in_ok-value.ensures.ok_part c.read.ensures in
    let found = some_used c.args.entry.dot t.rows.now t.len t.within _ (c.in-Some.ensures ∙ ap (first_at c.args.entry.dot) c.used.ensures) in
    let p : Putting g.K.Kind.code g.K.Kind.kind t.rows.now t.len c.args.part c.args.entry c.in_ok-value.value c.in-Some.found = record {
      within = t.within;
      orderly = t.orderly;
      zero_part = c.if-part-ne0.false;
      good = sym c.is_entry_address.ensures ∙ c.if-not-is_entry_address.false;
      is = code;
      fit = g.met.K.Kind.fits c.in_ok-value.value;
      sought = found.0;
    } in
    let n = c.join_at.auto.rows in
    let within = t.within in
    record { within = omega arith; orderly = orderly_after p _ _ n (joined_after p found.1 _ c.join_at.ensures.joined) }

pub returns-in-Some : goal.returns-in-Some
returns-in-Some g c =
    let t = c.args.self.now in
    let code : g.K.Kind.code c.in_ok-value.value ≡ c.args.entry.value = subst (λ o. MatchOption o (g.K.Kind.kind.fits c.args.entry.value ≡ false) (λ v. g.K.Kind.code v ≡ c.args.entry.value)) c.in_ok-value.ensures.ok_part c.read.ensures in
    let found = some_used c.args.entry.dot t.rows.now t.len t.within _ (c.in-Some.ensures ∙ ap (first_at c.args.entry.dot) c.used.ensures) in
    let p : Putting g.K.Kind.code g.K.Kind.kind t.rows.now t.len c.args.part c.args.entry c.in_ok-value.value c.in-Some.found = record {
      within = t.within;
      orderly = t.orderly;
      zero_part = c.if-part-ne0.false;
      good = sym c.is_entry_address.ensures ∙ c.if-not-is_entry_address.false;
      is = code;
      fit = g.met.K.Kind.fits c.in_ok-value.value;
      sought = found.0;
    } in
    record {
      room = ap (λ n. usable n ∷ []) c.join_at.auto.rows;
      answer = joined_answer p found.1;
      after = joined_after p found.1 _ c.join_at.ensures.joined;
      rest = drop_further _ _ (c.in-Some.found + 1) t.len (let there = found.1 in omega arith) c.join_at.ensures.rest;
    }

pub returns-then-self-capacity-clause-answer : goal.returns-then-self-capacity-clause-answer
returns-then-self-capacity-clause-answer g c =
    let t = c.args.self.now in
    let code : g.K.Kind.code c.in_ok-value.value ≡ c.args.entry.value = subst (λ o. MatchOption o (g.K.Kind.kind.fits c.args.entry.value ≡ false) (λ v. g.K.Kind.code v ≡ c.args.entry.value)) c.in_ok-value.ensures.ok_part c.read.ensures in
    let none = none_used c.args.entry.dot t.rows.now t.len t.within (c.in_default.ensures ∙ ap (first_at c.args.entry.dot) c.used.ensures) in
    let p : Putting g.K.Kind.code g.K.Kind.kind t.rows.now t.len c.args.part c.args.entry c.in_ok-value.value (lead (other c.args.entry.dot) (take t.len t.rows.now)) = record {
      within = t.within;
      orderly = t.orderly;
      zero_part = c.if-part-ne0.false;
      good = sym c.is_entry_address.ensures ∙ c.if-not-is_entry_address.false;
      is = code;
      fit = g.met.K.Kind.fits c.in_ok-value.value;
      sought = refl;
    } in
    refused_answer p none (omega (arith, c.capacity.ensures))

pub returns-then-self-capacity-clause-after : goal.returns-then-self-capacity-clause-after
returns-then-self-capacity-clause-after g c =
    let t = c.args.self.now in
    let code : g.K.Kind.code c.in_ok-value.value ≡ c.args.entry.value = subst (λ o. MatchOption o (g.K.Kind.kind.fits c.args.entry.value ≡ false) (λ v. g.K.Kind.code v ≡ c.args.entry.value)) c.in_ok-value.ensures.ok_part c.read.ensures in
    let none = none_used c.args.entry.dot t.rows.now t.len t.within (c.in_default.ensures ∙ ap (first_at c.args.entry.dot) c.used.ensures) in
    let p : Putting g.K.Kind.code g.K.Kind.kind t.rows.now t.len c.args.part c.args.entry c.in_ok-value.value (lead (other c.args.entry.dot) (take t.len t.rows.now)) = record {
      within = t.within;
      orderly = t.orderly;
      zero_part = c.if-part-ne0.false;
      good = sym c.is_entry_address.ensures ∙ c.if-not-is_entry_address.false;
      is = code;
      fit = g.met.K.Kind.fits c.in_ok-value.value;
      sought = refl;
    } in
    refused_after p none (omega (arith, c.capacity.ensures))

pub invariant_of-self-2 : goal.invariant_of-self-2
invariant_of-self-2 g c =
    let t = c.args.self.now in
    let code : g.K.Kind.code c.in_ok-value.value ≡ c.args.entry.value = subst (λ o. MatchOption o (g.K.Kind.kind.fits c.args.entry.value ≡ false) (λ v. g.K.Kind.code v ≡ c.args.entry.value)) c.in_ok-value.ensures.ok_part c.read.ensures in
    let none = none_used c.args.entry.dot t.rows.now t.len t.within (c.in_default.ensures ∙ ap (first_at c.args.entry.dot) c.used.ensures) in
    let p : Putting g.K.Kind.code g.K.Kind.kind t.rows.now t.len c.args.part c.args.entry c.in_ok-value.value (lead (other c.args.entry.dot) (take t.len t.rows.now)) = record {
      within = t.within;
      orderly = t.orderly;
      zero_part = c.if-part-ne0.false;
      good = sym c.is_entry_address.ensures ∙ c.if-not-is_entry_address.false;
      is = code;
      fit = g.met.K.Kind.fits c.in_ok-value.value;
      sought = refl;
    } in
    let at : c.position-at.result ≡ lead (ahead c.args.entry.place c.args.entry.dot) (take t.len t.rows.now) =
    subst (λ es. Falls (ahead c.args.entry.place c.args.entry.dot) es → c.position-at.result ≡ lead (ahead c.args.entry.place c.args.entry.dot) es) c.used-2.ensures c.position-at.ensures.rank
    (falls g.K.Kind.code g.K.Kind.kind (row p) (take t.len t.rows.now) t.orderly.ascends) in
    let used : take (t.len + 1) c.insert_at.new.rows ≡ insert (take t.len t.rows.now) c.position-at.result (row p) = c.insert_at.ensures.used in
    let n = c.insert_at.auto.rows in
    let within = t.within in
    let u = c.capacity.ensures in
    record { within = omega arith; orderly = orderly_after p _ _ n (inserted_after p none (omega arith) _ _ at used) }

pub returns : goal.returns
returns g c =
    let t = c.args.self.now in
    let code : g.K.Kind.code c.in_ok-value.value ≡ c.args.entry.value = subst (λ o. MatchOption o (g.K.Kind.kind.fits c.args.entry.value ≡ false) (λ v. g.K.Kind.code v ≡ c.args.entry.value)) c.in_ok-value.ensures.ok_part c.read.ensures in
    let none = none_used c.args.entry.dot t.rows.now t.len t.within (c.in_default.ensures ∙ ap (first_at c.args.entry.dot) c.used.ensures) in
    let p : Putting g.K.Kind.code g.K.Kind.kind t.rows.now t.len c.args.part c.args.entry c.in_ok-value.value (lead (other c.args.entry.dot) (take t.len t.rows.now)) = record {
      within = t.within;
      orderly = t.orderly;
      zero_part = c.if-part-ne0.false;
      good = sym c.is_entry_address.ensures ∙ c.if-not-is_entry_address.false;
      is = code;
      fit = g.met.K.Kind.fits c.in_ok-value.value;
      sought = refl;
    } in
    let at : c.position-at.result ≡ lead (ahead c.args.entry.place c.args.entry.dot) (take t.len t.rows.now) =
    subst (λ es. Falls (ahead c.args.entry.place c.args.entry.dot) es → c.position-at.result ≡ lead (ahead c.args.entry.place c.args.entry.dot) es) c.used-2.ensures c.position-at.ensures.rank
    (falls g.K.Kind.code g.K.Kind.kind (row p) (take t.len t.rows.now) t.orderly.ascends) in
    let used : take (t.len + 1) c.insert_at.new.rows ≡ insert (take t.len t.rows.now) c.position-at.result (row p) = c.insert_at.ensures.used in
    let u = c.capacity.ensures in
    record {
      room = ap (λ n. usable n ∷ []) c.insert_at.auto.rows;
      answer = inserted_answer p none (omega arith);
      after = inserted_after p none (omega arith) _ _ at used;
      rest = c.insert_at.ensures.rest;
    }
