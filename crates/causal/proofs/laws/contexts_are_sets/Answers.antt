use Rattle.causal.proofs.RunFacts.{canonical_from}
use Rattle.causal.proofs.RunSets as sets
use Rattle.causal.proofs.RunHighest as highest
use Rattle.causal.proofs.laws.contexts_are_sets.Goals as goal

pub returns : goal.returns
returns c = record {
  members = λ xs ys d hx hy. sets.has_union xs ys d (canonical_from xs hx) (canonical_from ys hy);
  stays_canonical = sets.union_stays_canonical;
  same_dots = λ xs ys hx hy. sets.ext xs ys (canonical_from xs hx) (canonical_from ys hy);
  associative = λ xs ys zs hx hy hz. sets.union_assoc xs ys zs (canonical_from xs hx) (canonical_from ys hy) (canonical_from zs hz);
  commutative = λ xs ys hx hy. sets.union_comm xs ys (canonical_from xs hx) (canonical_from ys hy);
  idempotent = λ xs hx. sets.union_idem xs (canonical_from xs hx);
  highest_of_union = λ n xs ys hx hy. highest.highest_union n xs ys (canonical_from xs hx) (canonical_from ys hy);
  next_is_new = highest.fresh;
}
