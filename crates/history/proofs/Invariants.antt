-- What holds of the machine after any calls.
use Rattle.std.proofs.Common.{◌≡◌, ℕ, zero, suc, ◌+◌, ◌-◌, ◌<◌, ◌≤◌, max, Bool, true, false, cond, eqb, leb, ◌⊎◌, List, [], ◌∷◌, ◌++◌, length, take, drop, replicate, sym, refl, ap, ◌∙◌, subst, inl, inr, ⊎_elim, append_assoc, arith, length-append, take-append-drop, take_all}
use lib.ListN.{get_or-replicate}
use lib.Seq.{take-append-le}
use Rattle.std.proofs.lemmas.List.{drop-drop, drop-append-le, get_or-set_same, get_or-set_other}
use Rattle.std.proofs.lemmas.Bool.{cond_both, eqb-true, eqb-false, cases_lt, and_parts, leb-true}
use Rattle.causal.specs.Dots.{is_replica, last_replica}
use Rattle.causal.specs.Runs.{highest}
use Rattle.contexts.specs.Contexts.{most_runs}
use Rattle.stores.specs.Items.{Item}
use Rattle.calls.specs.Holdings.{heard_of, hearing}
use Rattle.calls.specs.Steps.{last_step}
use Rattle.history.specs.Sets.{◌∈◌}
use Rattle.history.specs.Worlds.{Setting, changed}
use Rattle.history.specs.History.{Name, Edit, Edits, names, put_by, all_of, Past, Letter, book, grown, Machine, blank}
use Rattle.history.proofs.Members.{in_left, in_right, in_either, nil_right}
use Rattle.history.proofs.Histories.{Part, Sane, part_append}

abbrev pub Closed : Edits → Type 0
Closed es = (e : Edit) (n : Name) → e ∈ es → n ∈ e.past → n ∈ names es

pub names_part : (es fs : Edits) → Part es fs → (n : Name) → n ∈ names es → n ∈ names fs
names_part es fs h n m = let j = from es n m in subst (λ v. v ∈ names fs) j.2 (to fs j.0 (h j.0 j.1))
  where
    from : (es : Edits) (n : Name) → n ∈ names es → (e : Edit) × (e ∈ es) × (e.name ≡ n)
    from [] n m = absurd m
    from (e ∷ es) n (inl p) = (e, inl refl, sym p)
    from (e ∷ es) n (inr m) = let i = from es n m in (i.0, inr i.1, i.2)

    to : (es : Edits) (e : Edit) → e ∈ es → e.name ∈ names es
    to [] e m = absurd m
    to (f ∷ es) e (inl p) = inl (ap (λ (v : Edit). v.name) p)
    to (f ∷ es) e (inr m) = inr (to es e m)

-- unions

pub all_append : (ds es : List Edits) → all_of (ds ++ es) ≡ all_of ds ++ all_of es
all_append [] es = refl
all_append (d ∷ ds) es = ap (λ l. d ++ l) (all_append ds es) ∙ sym (append_assoc d (all_of ds) (all_of es))

pub all_push : (ds : List Edits) (d : Edits) → all_of (ds ++ d ∷ []) ≡ all_of ds ++ d
all_push ds d = all_append ds (d ∷ []) ∙ ap (λ l. all_of ds ++ l) (nil_right d)

pub all_in : (t : Edits) (ds : List Edits) → t ∈ ds → Part t (all_of ds)
all_in t [] m e n = absurd m
all_in t (d ∷ ds) (inl p) e n = in_left e d (all_of ds) (subst (λ l. e ∈ l) p n)
all_in t (d ∷ ds) (inr m) e n = in_right e d (all_of ds) (all_in t ds m e n)

-- what had been seen at step i
abbrev pub seen_at : List Edits → ℕ → Edits
seen_at ds i = all_of (take i ds)

pub seen_more : (ds : List Edits) (i j : ℕ) → i ≤ j → Part (seen_at ds i) (seen_at ds j)
seen_more ds zero j l e m = absurd m
seen_more [] (suc i) j l e m = absurd m
seen_more (d ∷ ds) (suc i) zero l e m = absurd (omega arith)
seen_more (d ∷ ds) (suc i) (suc j) l e m = let k : i ≤ j = omega arith in ⊎_elim (λ a. in_left e d (seen_at ds j) a) (λ a. in_right e d (seen_at ds j) (seen_more ds i j k e a)) (in_either e d (seen_at ds i) m)

pub seen_end : (ds : List Edits) (i : ℕ) → length ds ≤ i → seen_at ds i ≡ all_of ds
seen_end ds i l = ap all_of (take_all i ds l)

pub seen_halves : (ds : List Edits) (i : ℕ) → seen_at ds i ++ all_of (drop i ds) ≡ all_of ds
seen_halves ds i = sym (all_append (take i ds) (drop i ds)) ∙ ap all_of (take-append-drop i ds)

pub seen_part : (ds : List Edits) (i : ℕ) → Part (seen_at ds i) (all_of ds)
seen_part ds i e m = subst (λ l. e ∈ l) (seen_halves ds i) (in_left e (seen_at ds i) (all_of (drop i ds)) m)

-- heard numbers

pub replica_low : (q : ℕ) → is_replica q ≡ true → (1 ≤ q) × (q ≤ last_replica)
replica_low q e = let a = and_parts (leb 1 q) (leb q last_replica) e in (leb-true 1 q a.0, leb-true q last_replica a.1)

pub hearing_here : (h : List ℕ) (q n : ℕ) → length h ≡ last_replica → is_replica q ≡ true → heard_of (hearing h q n) q ≡ n
hearing_here h q n l r = let a = replica_low q r in get_or-set_same h (q - 1) n 0 (omega arith)

pub hearing_there : (h : List ℕ) (q n s : ℕ) → is_replica q ≡ true → is_replica s ≡ true → (q ≡ s → ⊥) → heard_of (hearing h q n) s ≡ heard_of h s
hearing_there h q n s r t d = let a = replica_low q r in let b = replica_low s t in get_or-set_other h (q - 1) (s - 1) n 0 (λ e. d (omega arith))

-- the sets of all steps of each replica, forgotten ones too
abbrev pub Log : Type 0
Log = ℕ → List Edits

-- x is what is kept of replica r, whose steps brought the sets ds
pub record PastOk (z : Setting) (all : Edits) (L : Log) (r : ℕ) (x : Past) (ds : List Edits) : Type 0 where
  pub seen : x.seen ≡ all_of ds
  pub step : x.step ≡ length ds
  pub kept : x.kept ≡ drop x.forgotten ds
  pub behind : x.forgotten ≤ x.step
  pub limit : x.step ≤ last_step
  pub few : length (book z x.seen).runs ≤ most_runs
  pub small : (d : Edits) → d ∈ ds → length (book z d).runs ≤ most_runs
  pub part : Part x.seen all
  pub own : (y : Item) → y ∈ put_by all → y.dot.replica ≡ r → y.dot.counter ≤ highest r (book z x.seen).runs
  pub dated : (e : Edit) → e ∈ all → e.name.author ≡ r → e.name.step ≤ x.step
  pub closed : (i : ℕ) → Closed (seen_at ds i)
  pub sixteen : length x.heard ≡ last_replica
  pub heard : (q : ℕ) → is_replica q ≡ true → heard_of x.heard q ≤ length (L q)
  pub caught : (q : ℕ) → is_replica q ≡ true → Part (seen_at (L q) (heard_of x.heard q)) x.seen

pub record LetterOk (z : Setting) (L : Log) (p : Letter) : Type 0 where
  pub sender : is_replica p.from.sender ≡ true
  pub ordered : p.from.since ≤ p.from.until
  pub until : p.from.until ≤ length (L p.from.sender)
  pub inside : Part p.content (seen_at (L p.from.sender) p.from.until)
  pub covers : (e : Edit) → e ∈ seen_at (L p.from.sender) p.from.until → (e ∈ p.content) ⊎ (e ∈ seen_at (L p.from.sender) p.from.since)
  pub few : length (book z p.content).runs ≤ most_runs

-- all: the edits ever made
pub record Inv (z : Setting) (m : Machine) : Type 0 where
  pub log : Log
  pub all : Edits
  pub sane : Sane z.kinds all
  pub named : (e f : Edit) → e ∈ all → f ∈ all → e.name ≡ f.name → e ≡ f
  pub pasts : (r : ℕ) → PastOk z all log r (m.pasts r) (log r)
  pub posts : (l : ℕ) (p : Letter) → p ∈ m.posts l → LetterOk z log p

pub changed_self : {A : Type 0} (f : ℕ → A) (i : ℕ) → changed f i (f i) ≡ f
changed_self f i = λ t j. cond_both (eqb i j) (f i) (f j) (λ x. x ≡ f j) (λ e. ap f (eqb-true i j e)) (λ e. refl) t

pub changed_here : {A : Type 0} (f : ℕ → A) (i : ℕ) (x : A) → changed f i x i ≡ x
changed_here f i x = cond_both (eqb i i) x (f i) (λ y. y ≡ x) (λ e. refl) (λ e. absurd (eqb-false i i e refl))

pub changed_there : {A : Type 0} (f : ℕ → A) (i : ℕ) (x : A) (j : ℕ) → eqb i j ≡ false → changed f i x j ≡ f j
changed_there f i x j e = ap (λ b. cond b x (f j)) e

module _ (z : Setting) where
  pub inv_blank : Inv z (blank z)
  inv_blank = record {
    log = λ r. [];
    all = [];
    sane = record { good = λ x m. absurd m; one = λ x y m n. absurd m; struck = λ d m. absurd m; narrow = λ x m. absurd m };
    named = λ e f m. absurd m;
    pasts = λ r. record {
      seen = refl;
      step = refl;
      kept = refl;
      behind = omega arith;
      limit = omega arith;
      few = omega arith;
      small = λ d m. absurd m;
      part = λ e m. absurd m;
      own = λ y m. absurd m;
      dated = λ e m. absurd m;
      closed = λ i e n m. absurd (nowhere i e m);
      sixteen = refl;
      heard = λ q t. let a = silent q t in omega arith;
      caught = λ q t e m. absurd (nowhere (heard_of (replicate last_replica 0) q) e m);
    };
    posts = λ l p m. absurd m;
  }
    where
      nowhere : (i : ℕ) (e : Edit) → e ∈ all_of (take i []) → ⊥
      nowhere zero e m = m
      nowhere (suc i) e m = m

      silent : (q : ℕ) → is_replica q ≡ true → heard_of (replicate last_replica 0) q ≡ 0
      silent q t = let a = replica_low q t in get_or-replicate last_replica (q - 1) 0 0 (omega arith)

  module _ (m : Machine) (v : Inv z m) where
    pub inv_same : (r : ℕ) → Inv z (record { pasts = changed m.pasts r (m.pasts r); posts = m.posts })
    inv_same r = subst (λ P. Inv z (record { pasts = P; posts = m.posts })) (sym (changed_self m.pasts r)) v

    pub inv_post : (l : ℕ) (ps : List Letter) → ((p : Letter) → p ∈ ps → LetterOk z v.log p) → Inv z (record { pasts = m.pasts; posts = changed m.posts l ps })
    inv_post l ps h = record {
      log = v.log;
      all = v.all;
      sane = v.sane;
      named = v.named;
      pasts = v.pasts;
      posts = λ j p. cond_both (eqb l j) ps (m.posts j) (λ qs. p ∈ qs → LetterOk z v.log p) (λ e n. h p n) (λ e n. v.posts j p n);
    }

    -- one more step of r, by which D came
    module _ (r : ℕ) (D : Edits) (h : List ℕ) (all : Edits) (sane : Sane z.kinds all) (named : (e f : Edit) → e ∈ all → f ∈ all → e.name ≡ f.name → e ≡ f) (more : Part v.all all) (part : Part D all)
        (room : (m.pasts r).step < last_step)
        (few : length (book z ((m.pasts r).seen ++ D)).runs ≤ most_runs)
        (small : length (book z D).runs ≤ most_runs)
        (own_here : (y : Item) → y ∈ put_by all → y.dot.replica ≡ r → y.dot.counter ≤ highest r (book z ((m.pasts r).seen ++ D)).runs)
        (own_there : (q : ℕ) → eqb r q ≡ false → (y : Item) → y ∈ put_by all → y.dot.replica ≡ q → y.dot.counter ≤ highest q (book z (m.pasts q).seen).runs)
        (dated_here : (e : Edit) → e ∈ all → e.name.author ≡ r → e.name.step ≤ (m.pasts r).step + 1)
        (dated_there : (q : ℕ) → eqb r q ≡ false → (e : Edit) → e ∈ all → e.name.author ≡ q → e.name.step ≤ (m.pasts q).step)
        (closing : Closed ((m.pasts r).seen ++ D))
        (sixteen : length h ≡ last_replica)
        (heard : (q : ℕ) → is_replica q ≡ true → heard_of h q ≤ length (v.log q))
        (caught : (q : ℕ) → is_replica q ≡ true → Part (seen_at (v.log q) (heard_of h q)) ((m.pasts r).seen ++ D)) where
      abbrev x : Past
      x = m.pasts r

      abbrev ds : List Edits
      ds = v.log r

      abbrev ds' : List Edits
      ds' = ds ++ D ∷ []

      abbrev L : Log
      L = changed v.log r ds'

      longer : (q : ℕ) → length (v.log q) ≤ length (L q)
      longer q = cond_both (eqb r q) ds' (v.log q) (λ l. length (v.log q) ≤ length l) (λ e. let p = ap (λ j. length (v.log j)) (eqb-true r q e) in let a = length-append ds (D ∷ []) in omega arith) (λ e. omega arith)

      same_upto : (q i : ℕ) → i ≤ length (v.log q) → seen_at (L q) i ≡ seen_at (v.log q) i
      same_upto q i l =
          cond_both (eqb r q) ds' (v.log q) (λ k. seen_at k i ≡ seen_at (v.log q) i)
          (λ e. ap (λ j. seen_at (v.log j ++ D ∷ []) i) (eqb-true r q e) ∙ ap all_of (take-append-le i (v.log q) (D ∷ []) l)) (λ e. refl)

      ok_here : PastOk z all L r (grown x D h) ds'
      ok_here =
          let o = v.pasts r in
          let n = length-append ds (D ∷ []) in
          let st = o.step in
          record {
            seen = ap (λ l. l ++ D) o.seen ∙ sym (all_push ds D);
            step = ap (λ n. n + 1) o.step ∙ sym n;
            kept = ap (λ l. l ++ D ∷ []) o.kept ∙ sym (drop-append-le x.forgotten ds (D ∷ []) (let b = o.behind in omega arith));
            behind = let b = o.behind in omega arith;
            limit = omega arith;
            few = few;
            small = λ d i. ⊎_elim (λ a. o.small d a) (λ a. ⊎_elim (λ b. subst (λ (t : Edits). length (book z t).runs ≤ most_runs) (sym b) small) (λ b. absurd b) a) (in_either d ds (D ∷ []) i);
            part = part_append x.seen D all (λ e i. more e (o.part e i)) part;
            own = own_here;
            dated = dated_here;
            closed = λ i. ⊎_elim
                (λ l. subst Closed (sym (seen_end ds' i (omega arith) ∙ all_push ds D ∙ ap (λ l. l ++ D) (sym o.seen))) closing)
                (λ l. subst Closed (sym (ap all_of (take-append-le i ds (D ∷ []) l))) (o.closed i)) (cases_lt (length ds) i);
            sixteen = sixteen;
            heard = λ q t. let a = heard q t in let b = longer q in omega arith;
            caught = λ q t e i. caught q t e (subst (λ es. e ∈ es) (same_upto q (heard_of h q) (heard q t)) i);
          }

      ok_there : (q : ℕ) → eqb r q ≡ false → PastOk z all L q (m.pasts q) (v.log q)
      ok_there q n =
          let o = v.pasts q in
          record {
            seen = o.seen;
            step = o.step;
            kept = o.kept;
            behind = o.behind;
            limit = o.limit;
            few = o.few;
            small = o.small;
            part = λ e i. more e (o.part e i);
            own = own_there q n;
            dated = dated_there q n;
            closed = o.closed;
            sixteen = o.sixteen;
            heard = λ s t. let a = o.heard s t in let b = longer s in omega arith;
            caught = λ s t e i. o.caught s t e (subst (λ es. e ∈ es) (same_upto s (heard_of (m.pasts q).heard s) (o.heard s t)) i);
          }

      letter_still : (p : Letter) → LetterOk z v.log p → LetterOk z L p
      letter_still p o = record {
        sender = o.sender;
        ordered = o.ordered;
        until = let a = o.until in let b = longer p.from.sender in omega arith;
        inside = λ e i. subst (λ es. e ∈ es) (sym (same_upto p.from.sender p.from.until o.until)) (o.inside e i);
        covers = λ e i. ⊎_elim (λ a. inl a) (λ a. inr (subst (λ es. e ∈ es) (sym (same_upto p.from.sender p.from.since (let u = o.until in let w = o.ordered in omega arith))) a)) (o.covers e (subst (λ es. e ∈ es) (same_upto p.from.sender p.from.until o.until) i));
        few = o.few;
      }

      pub inv_grown : Inv z (record { pasts = changed m.pasts r (grown x D h); posts = m.posts })
      inv_grown = record {
        log = L;
        all = all;
        sane = sane;
        named = named;
        pasts = λ q. each q (eqb r q) refl;
        posts = λ l p i. letter_still p (v.posts l p i);
      }
        where
          each : (q : ℕ) (b : Bool) → eqb r q ≡ b → PastOk z all L q (cond b (grown x D h) (m.pasts q)) (cond b ds' (v.log q))
          each q true e = subst (λ j. PastOk z all L j (grown x D h) ds') (eqb-true r q e) ok_here
          each q false e = ok_there q e

    pub inv_forgot : (r t : ℕ) → t ≤ (m.pasts r).step
        → Inv z (record { pasts = changed m.pasts r (record { seen = (m.pasts r).seen; step = (m.pasts r).step; forgotten = max (m.pasts r).forgotten t; heard = (m.pasts r).heard; kept = drop (t - (m.pasts r).forgotten) (m.pasts r).kept }); posts = m.posts })
    inv_forgot r t le = record { log = v.log; all = v.all; sane = v.sane; named = v.named; pasts = λ q. each q (eqb r q) refl; posts = v.posts }
      where
        x : Past
        x = m.pasts r

        x' : Past
        x' = record { seen = x.seen; step = x.step; forgotten = max x.forgotten t; heard = x.heard; kept = drop (t - x.forgotten) x.kept }

        ok : PastOk z v.all v.log r x' (v.log r)
        ok =
            let o = v.pasts r in
            record {
              seen = o.seen;
              step = o.step;
              kept = ap (drop (t - x.forgotten)) o.kept ∙ drop-drop (t - x.forgotten) x.forgotten (v.log r) ∙ ap (λ n. drop n (v.log r)) (omega arith);
              behind = let b = o.behind in omega arith;
              limit = o.limit;
              few = o.few;
              small = o.small;
              part = o.part;
              own = o.own;
              dated = o.dated;
              closed = o.closed;
              sixteen = o.sixteen;
              heard = o.heard;
              caught = o.caught;
            }

        each : (q : ℕ) (b : Bool) → eqb r q ≡ b → PastOk z v.all v.log q (cond b x' (m.pasts q)) (v.log q)
        each q true e = subst (λ j. PastOk z v.all v.log j x' (v.log j)) (eqb-true r q e) ok
        each q false e = v.pasts q
