-- Actions that were read from bytes.
use Rattle.std.proofs.Common.{◌≡◌, ℕ, zero, suc, ◌/◌, ◌<◌, true, false, cond, ◌&&◌, eqb, ltb, List, [], ◌∷◌, map, length, take, drop, Some, None, Option, sym, refl, subst, ⊎_elim}
use Rattle.std.specs.List.{AllByRecursion}
use Rattle.std.proofs.lemmas.Bool.{and_parts, and_from, ltb-true, not-false}
use Rattle.causal.specs.declared.places.Place.{Place}
use Rattle.causal.specs.Places.{is_place}
use Rattle.kinds.specs.Kinds.{ValueKind}
use Rattle.stores.specs.Puts.{fits_part}
use Rattle.stores.proofs.Stays.{some_none}
use Rattle.stores.proofs.Lookups.{some_same, cond_split}
use Rattle.records.specs.declared.fields.Fields.{Fields}
use Rattle.reading.specs.Faults.{bad_code}
use Rattle.records.specs.Fields.{fields_of}
use Rattle.records.proofs.Spelling.{bytes_narrow}
use Rattle.calls.specs.Actions.{Action, set, clear, amend, has_key, is_action, action_by_tag, action_in, pieces, understood, actions, is_unfit, code_fault}
use Rattle.history.proofs.Members.{all_at, all_from, in_take, in_drop}

pub record Keyed (l : Place) : Type 0 where
  pub first : l.first < 65536
  pub second : l.second < 65536
  pub third : l.third < 65536
  pub fourth : l.fourth < 65536

-- the part is there, and the place may have an entry and fits its bytes
pub record Placed (ks : List ValueKind) (p : ℕ) (l : Place) : Type 0 where
  pub part : p < length ks
  pub place : (is_place l && has_key l) ≡ true
  pub keys : Keyed l

abbrev pub Read : List ValueKind → Action → Type 0
Read ks (set p l c) = Placed ks p l
Read ks (clear p l) = Unit {0}
Read ks (amend p l c) = Placed ks p l

abbrev pub Coded : List ValueKind → Action → Type 0
Coded ks (set p l c) = fits_part ks p c ≡ true
Coded ks (clear p l) = Unit {0}
Coded ks (amend p l c) = fits_part ks p c ≡ true

pub action_read : (ks : List ValueKind) (bytes : List ℕ) (a : Action) → AllByRecursion (λ b. b < 256) bytes → action_in ks bytes ≡ Some a → Read ks a
action_read ks bytes a small e = ⊎_elim (λ c. tagged c.0 c.1) (λ c. absurd (some_none (sym c.1))) (cond_split (is_action ks f) (action_by_tag f) None (Some a) e)
  where
    f : Fields
    f = fields_of bytes

    placed : is_action ks f ≡ true → has_key f.place ≡ true → Placed ks f.part f.place
    placed i h =
        let n = bytes_narrow bytes small in
        let e = ltb f.part (length ks) && is_place f.place in
        let d = eqb f.high 0 && e in
        let c = eqb f.low 0 && d in
        let b = eqb f.spare 0 && c in
        let a = and_parts (ltb f.part (length ks)) (is_place f.place) (and_parts (eqb f.high 0) e (and_parts (eqb f.low 0) d (and_parts (eqb f.spare 0) c (and_parts (eqb f.replica 0) b i).1).1).1).1 in
        record { part = ltb-true f.part (length ks) a.0; place = and_from (is_place f.place) (has_key f.place) a.1 h; keys = record { first = n.first; second = n.second; third = n.third; fourth = n.fourth } }

    third : is_action ks f ≡ true → cond (eqb f.tag 7 && has_key f.place) (Some (amend f.part f.place f.code)) None ≡ Some a → Read ks a
    third i e = ⊎_elim (λ c. subst (Read ks) (some_same (amend f.part f.place f.code) a c.1) (placed i (and_parts (eqb f.tag 7) (has_key f.place) c.0).1)) (λ c. absurd (some_none (sym c.1))) (cond_split (eqb f.tag 7 && has_key f.place) (Some (amend f.part f.place f.code)) None (Some a) e)

    second : is_action ks f ≡ true → cond (eqb f.tag 6 && eqb f.code 0) (Some (clear f.part f.place)) (cond (eqb f.tag 7 && has_key f.place) (Some (amend f.part f.place f.code)) None) ≡ Some a → Read ks a
    second i e = ⊎_elim (λ c. subst (Read ks) (some_same (clear f.part f.place) a c.1) tt) (λ c. third i c.1) (cond_split (eqb f.tag 6 && eqb f.code 0) (Some (clear f.part f.place)) (cond (eqb f.tag 7 && has_key f.place) (Some (amend f.part f.place f.code)) None) (Some a) e)

    tagged : is_action ks f ≡ true → action_by_tag f ≡ Some a → Read ks a
    tagged i e = ⊎_elim (λ c. subst (Read ks) (some_same (set f.part f.place f.code) a c.1) (placed i (and_parts (eqb f.tag 5) (has_key f.place) c.0).1)) (λ c. second i c.1)
        (cond_split (eqb f.tag 5 && has_key f.place) (Some (set f.part f.place f.code)) (cond (eqb f.tag 6 && eqb f.code 0) (Some (clear f.part f.place)) (cond (eqb f.tag 7 && has_key f.place) (Some (amend f.part f.place f.code)) None)) (Some a) e)

pub pieces_read : (ks : List ValueKind) (n : ℕ) (bytes : List ℕ) → AllByRecursion (λ b. b < 256) bytes → AllByRecursion (Read ks) (understood (map (action_in ks) (pieces n bytes)))
pieces_read ks zero bytes small = tt
pieces_read ks (suc n) bytes small = go (action_in ks (take 24 bytes)) refl (pieces_read ks n (drop 24 bytes) (all_from (λ b. b < 256) (drop 24 bytes) (λ b m. all_at (λ b. b < 256) bytes b small (in_drop b 24 bytes m))))
  where
    go : (o : Option Action) → action_in ks (take 24 bytes) ≡ o → AllByRecursion (Read ks) (understood (map (action_in ks) (pieces n (drop 24 bytes)))) → AllByRecursion (Read ks) (understood (o ∷ map (action_in ks) (pieces n (drop 24 bytes))))
    go None e i = i
    go (Some a) e i = (action_read ks (take 24 bytes) a (all_from (λ b. b < 256) (take 24 bytes) (λ b m. all_at (λ b. b < 256) bytes b small (in_take b 24 bytes m))) e, i)

pub actions_read : (ks : List ValueKind) (bytes : List ℕ) → AllByRecursion (λ b. b < 256) bytes → AllByRecursion (Read ks) (actions ks bytes)
actions_read ks bytes small = pieces_read ks (length bytes / 24) bytes small

pub coded : (ks : List ValueKind) (n : ℕ) (acts : List Action) → code_fault ks n acts ≡ None → AllByRecursion (Coded ks) acts
coded ks n [] e = tt
coded ks n (a ∷ acts) e = ⊎_elim (λ c. absurd (some_none c.1)) (λ c. (one a c.0, coded ks (suc n) acts c.1)) (cond_split (is_unfit ks a) (Some (bad_code n)) (code_fault ks (suc n) acts) None e)
  where
    one : (a : Action) → is_unfit ks a ≡ false → Coded ks a
    one (set p l c) e = not-false _ e
    one (clear p l) e = tt
    one (amend p l c) e = not-false _ e
