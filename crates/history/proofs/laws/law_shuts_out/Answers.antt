use Rattle.std.proofs.Common.{◌≡◌, ℕ, ◌<◌, Bool, true, ◌&&◌, ltb, List, [], ◌∷◌, ◌++◌, map, sym, refl, ap, ◌∙◌, subst, inl, ⊎_elim, arith}
use Rattle.std.proofs.lemmas.Bool.{and_parts, ltb-true}
use Rattle.std.specs.List.{AllByRecursion}
use Rattle.causal.specs.Dots.{same_dot, dot_less}
use Rattle.causal.specs.Places.{same_place, place_less}
use Rattle.causal.specs.Runs.{in_run, before, hull}
use Rattle.groups.specs.Groups.{meet}
use Rattle.groups.specs.Examples.{feeder}
use Rattle.records.specs.Records.{is_entry_record, is_run_record, is_origin_record}
use Rattle.calls.specs.Holdings.{Answer, refusal, wrote, arrived, absorbed, accepted, counted, Turn}
use Rattle.history.specs.Sets.{◌∈◌}
use Rattle.history.specs.Worlds as worlds
use Rattle.history.specs.Worlds.{called, Call, read, Bytewise, World, traced, opened}
use Rattle.history.specs.History.{Name, Edit, Edits, names, tale, told, blank}
use Rattle.history.specs.Law.{compared, FollowsBy, CausalBy}
use Rattle.history.specs.Examples.{site, one, two, action, edits, ships, delivers, name, pasts}
use Rattle.history.specs.ShutOut.{Behaviour, behaving, honest, joining_nothing, calling_all_old, shipping_whole, editing_by_the_first, refusing_all, over_gaps}
use Rattle.history.proofs.Law.{runs_keep_history}
use Rattle.history.proofs.laws.law_shuts_out.Goals as goal

-- the number in the last answer
tallied : Answer → ℕ
tallied (refusal fault) = 0
tallied (wrote n) = n
tallied (arrived way) = 0
tallied (absorbed way n) = n
tallied accepted = 0
tallied (counted n) = n

last_number : List (Turn World) → ℕ
last_number [] = 0
last_number (t ∷ []) = tallied t.answer
last_number (t ∷ u ∷ ts) = last_number (u ∷ ts)

-- 1 sets feeder 12 and ships, 2 delivers and reads
exchange : List Call
exchange = edits one (action 5 0 12 0 160) ∷ ships one 0 ∷ delivers two 0 ∷ read two 0 (feeder 12) (7 ∷ []) ∷ []

-- 1 sets feeders 12 and 13 and ships the second
second_only : List Call
second_only = edits one (action 5 0 12 0 160) ∷ edits one (action 5 0 13 0 160) ∷ ships one 1 ∷ []

-- 1 sets feeders 12 and 13 in one edit, and reads the second
both_at_once : List Call
both_at_once = edits one (action 5 0 12 0 160 ++ action 5 0 13 0 160) ∷ read one 0 (feeder 13) (7 ∷ []) ∷ []

-- 1 sets feeders 12 and 13 and ships the second, 2 takes it in
past_a_gap : List Call
past_a_gap = edits one (action 5 0 12 0 160) ∷ edits one (action 5 0 13 0 160) ∷ ships one 1 ∷ delivers two 0 ∷ []

differ : (a b : ℕ) (xs ys : List (Turn World)) → last_number xs ≡ a → last_number ys ≡ b → xs ≡ ys → a ≡ b
differ a b xs ys p q e = sym p ∙ ap last_number e ∙ q

abbrev machine : List Call → List (Turn World)
machine ks = map (compared site) (tale site (blank site) ks)

abbrev by : Behaviour → List Call → List (Turn World)
by b ks = traced (behaving b site) (opened site) ks

exchanged : last_number (machine exchange) ≡ 1
unfolding tallied last_number exchange same_dot dot_less same_place place_less in_run before hull meet is_entry_record is_run_record is_origin_record
exchanged = refl

nothing_read : last_number (by joining_nothing exchange) ≡ 0
unfolding tallied last_number exchange same_dot dot_less same_place place_less in_run before hull meet is_entry_record is_run_record is_origin_record
nothing_read = refl

old_read : last_number (by calling_all_old exchange) ≡ 0
unfolding tallied last_number exchange same_dot dot_less same_place place_less in_run before hull meet is_entry_record is_run_record is_origin_record
old_read = refl

refused_read : last_number (by refusing_all exchange) ≡ 0
unfolding tallied last_number exchange same_dot dot_less same_place place_less in_run before hull meet is_entry_record is_run_record is_origin_record
refused_read = refl

interval : last_number (machine second_only) ≡ 72
unfolding tallied last_number second_only same_dot dot_less same_place place_less in_run before hull meet is_entry_record is_run_record is_origin_record
interval = refl

whole_sent : last_number (by shipping_whole second_only) ≡ 96
unfolding tallied last_number second_only same_dot dot_less same_place place_less in_run before hull meet is_entry_record is_run_record is_origin_record
whole_sent = refl

both_read : last_number (machine both_at_once) ≡ 1
unfolding tallied last_number both_at_once same_dot dot_less same_place place_less in_run before hull meet is_entry_record is_run_record is_origin_record
both_read = refl

first_read : last_number (by editing_by_the_first both_at_once) ≡ 0
unfolding tallied last_number both_at_once same_dot dot_less same_place place_less in_run before hull meet is_entry_record is_run_record is_origin_record
first_read = refl

-- action bytes are bytes

abbrev all_below : List ℕ → Bool
all_below [] = true
all_below (b ∷ bs) = ltb b 256 && all_below bs

below : (bs : List ℕ) → all_below bs ≡ true → AllByRecursion (λ b. b < 256) bs
below [] e = tt
below (b ∷ bs) e = let p = and_parts (ltb b 256) (all_below bs) e in (ltb-true b 256 p.0, below bs p.1)

exchange_bytes : AllByRecursion Bytewise exchange
unfolding exchange
exchange_bytes = (below (action 5 0 12 0 160) refl, (tt, (tt, (tt, tt))))

second_bytes : AllByRecursion Bytewise second_only
unfolding second_only
second_bytes = (below (action 5 0 12 0 160) refl, (below (action 5 0 13 0 160) refl, (tt, tt)))

both_bytes : AllByRecursion Bytewise both_at_once
unfolding both_at_once
both_bytes = (below (action 5 0 12 0 160 ++ action 5 0 13 0 160) refl, (tt, tt))

gap_bytes : AllByRecursion Bytewise past_a_gap
unfolding past_a_gap
gap_bytes = (below (action 5 0 12 0 160) refl, (below (action 5 0 13 0 160) refl, (tt, (tt, tt))))

-- past a gap: 2 has seen 1's second edit, and not the first, which that one's author had seen

abbrev leapt : Edits
leapt = ((told (over_gaps site) (blank site) past_a_gap).pasts 2).seen

leapt_names : names leapt ≡ name 1 2 ∷ []
unfolding past_a_gap same_dot dot_less same_place place_less in_run before hull meet is_entry_record is_run_record is_origin_record
leapt_names = refl

leapt_pasts : pasts leapt ≡ (name 1 1 ∷ []) ∷ []
unfolding past_a_gap same_dot dot_less same_place place_less in_run before hull meet is_entry_record is_run_record is_origin_record
leapt_pasts = refl

only_one : (es : Edits) (a b : Name) → names es ≡ a ∷ [] → pasts es ≡ (b ∷ []) ∷ [] → ((e : Edit) (n : Name) → e ∈ es → n ∈ e.past → n ∈ names es) → b ≡ a
only_one [] a b p q h = let o : ◌≡◌ {A = ℕ} 0 1 = cc in absurd (omega arith)
only_one (e ∷ es) a b p q h =
    let past : e.past ≡ b ∷ [] = cc in
    ⊎_elim (λ i. i) (λ i. absurd i) (subst (λ l. b ∈ l) p (h e b (inl refl) (subst (λ l. b ∈ l) (sym past) (inl refl))))

gap_out : CausalBy site (over_gaps site) → ⊥
gap_out h = let e = ap (λ (n : Name). n.step) (only_one leapt (name 1 2) (name 1 1) leapt_names leapt_pasts (λ e n. h past_a_gap gap_bytes 2 e n)) in omega arith

out : (b : Behaviour) (ks : List Call) → AllByRecursion Bytewise ks → (m n : ℕ) → last_number (by b ks) ≡ m → last_number (machine ks) ≡ n → FollowsBy site (behaving b site) → m ≡ n
out b ks bytes m n p q h = differ m n (by b ks) (machine ks) p q (h ks bytes)

-- as it should be

same_call : (k : Call) (w : World) → behaving honest site k w ≡ called site k w
same_call (worlds.Call.edit r pen bytes work output) w = refl
same_call (worlds.Call.ship r since work output l) w = refl
same_call (worlds.Call.ship_whole r output l) w = refl
same_call (worlds.Call.deliver r l position memory) w = refl
same_call (worlds.Call.lose l position) w = refl
same_call (worlds.Call.repeat l position memory) w = refl
same_call (worlds.Call.forget r t) w = refl
same_call (worlds.Call.read r part place numbers) w = refl

same_trace : (ks : List Call) (w : World) → traced (behaving honest site) w ks ≡ traced (called site) w ks
same_trace [] w = refl
same_trace (k ∷ ks) w = ap (λ (t : Turn World). t ∷ traced (behaving honest site) t.after ks) (same_call k w) ∙ ap (λ ts. called site k w ∷ ts) (same_trace ks (called site k w).after)

honest_in : FollowsBy site (behaving honest site)
honest_in ks bytes = same_trace ks (opened site) ∙ (runs_keep_history site (record { some = omega arith; few = omega arith })).follows ks bytes

pub returns : goal.returns
returns c = record {
  honest_is_in = honest_in;
  joining_nothing_is_out = λ h. let e = out joining_nothing exchange exchange_bytes 0 1 nothing_read exchanged h in omega arith;
  calling_all_old_is_out = λ h. let e = out calling_all_old exchange exchange_bytes 0 1 old_read exchanged h in omega arith;
  shipping_whole_is_out = λ h. let e = out shipping_whole second_only second_bytes 96 72 whole_sent interval h in omega arith;
  editing_by_the_first_is_out = λ h. let e = out editing_by_the_first both_at_once both_bytes 0 1 first_read both_read h in omega arith;
  refusing_all_is_out = λ h. let e = out refusing_all exchange exchange_bytes 0 1 refused_read exchanged h in omega arith;
  leaping_gaps_is_out = gap_out;
}
