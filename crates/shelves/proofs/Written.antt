-- What bytes hold after a write, and after a move down.
use Rattle.std.proofs.Common.{◌≡◌, ℕ, zero, suc, ◌+◌, ◌-◌, ◌<◌, ◌≤◌, cond, ltb, ◌≢◌, List, [], ◌∷◌, map, length, get_or, drop, set, sym, refl, ap, ◌∙◌, subst, ⊎_elim, arith}
use Rattle.std.specs.List.{range_with_len}
use Rattle.std.proofs.lemmas.List.{length-set, get_or-set_same, get_or-set_other, drop-set-lt}
use Rattle.shelves.specs.Layout.{turn, byte, laid, slid}
use Rattle.std.proofs.lemmas.Bool.{cond-true, cond-false, lt-ltb, le-ltb, cases_lt}
use Rattle.shelves.proofs.Turns.{turn_within, turn_apart, turn_on}

pub length_laid : (bytes : List ℕ) (room start from : ℕ) (news : List ℕ) → length (laid bytes room start from news) ≡ length bytes
length_laid bytes room start from [] = refl
length_laid bytes room start from (b ∷ news) = length_laid (set bytes (turn room start from) b) room start (from + 1) news ∙ length-set bytes (turn room start from) b

-- a byte elsewhere stays
pub laid_other : (bytes : List ℕ) (room start from : ℕ) (news : List ℕ) (j : ℕ) → ((i : ℕ) → i < length news → j ≢ turn room start (from + i)) → get_or (laid bytes room start from news) j 0 ≡ get_or bytes j 0
laid_other bytes room start from [] j ne = refl
laid_other bytes room start from (b ∷ news) j ne =
    let here : from + 0 ≡ from = omega arith in
    laid_other (set bytes (turn room start from) b) room start (from + 1) news j
    (λ i h e. let z : from + 1 + i ≡ from + suc i = omega arith in ne (suc i) (omega arith) (e ∙ ap (turn room start) z))
    ∙ get_or-set_other bytes (turn room start from) j b 0 (λ e. ne 0 (omega arith) (e ∙ ap (turn room start) (sym here)))

-- places that are counted apart
pub apart : (room start i j : ℕ) → start ≤ room → i < room → j < room → i ≢ j → turn room start i ≢ turn room start j
apart room start i j s h k ne e = ne (turn_apart room start i j s h k e)

-- what was written is there
pub laid_there : (bytes : List ℕ) (room start from : ℕ) (news : List ℕ) → start ≤ room → from + length news ≤ room → room ≤ length bytes
    → map (byte (laid bytes room start from news) room start) (range_with_len from (length news)) ≡ news
laid_there bytes room start from [] s h k = refl
laid_there bytes room start from (b ∷ news) s h k =
    let after = set bytes (turn room start from) b in
    let n = length-set bytes (turn room start from) b in
    let w = turn_within room start from s (omega arith) in
    let first : byte (laid after room start (from + 1) news) room start from ≡ b =
    laid_other after room start (from + 1) news (turn room start from) (λ i l. apart room start from (from + 1 + i) s (omega arith) (omega arith) (λ e. omega arith))
    ∙ get_or-set_same bytes (turn room start from) b 0 (omega arith) in
    let rest : map (byte (laid after room start (from + 1) news) room start) (range_with_len (from + 1) (length news)) ≡ news = laid_there after room start (from + 1) news s (omega arith) (omega arith) in
    ap (λ x. x ∷ map (byte (laid after room start (from + 1) news) room start) (range_with_len (from + 1) (length news))) first ∙ ap (λ xs. b ∷ xs) rest

-- bytes that are counted before it stay
pub laid_before : (bytes : List ℕ) (room start from : ℕ) (news : List ℕ) (i : ℕ) → start ≤ room → from + length news ≤ room → i < from → byte (laid bytes room start from news) room start i ≡ byte bytes room start i
laid_before bytes room start from news i s h l = laid_other bytes room start from news (turn room start i) (λ k m. apart room start i (from + k) s (omega arith) (omega arith) (λ e. omega arith))

-- and so do bytes past all that are written
pub laid_past : (bytes : List ℕ) (room start from limit : ℕ) (news : List ℕ) → ((i : ℕ) → i < length news → turn room start (from + i) < limit) → drop limit (laid bytes room start from news) ≡ drop limit bytes
laid_past bytes room start from limit [] h = refl
laid_past bytes room start from limit (b ∷ news) h =
    let here : from ≡ from + 0 = omega arith in
    let first : turn room start from < limit = subst (λ k. turn room start k < limit) (sym here) (h 0 (omega arith)) in
    laid_past (set bytes (turn room start from) b) room start (from + 1) limit news
    (λ i l. let z : from + suc i ≡ from + 1 + i = omega arith in subst (λ k. turn room start k < limit) z (h (suc i) (omega arith)))
    ∙ drop-set-lt limit bytes (turn room start from) b first

pub laid_spare : (bytes : List ℕ) (room start from : ℕ) (news : List ℕ) → start ≤ room → from + length news ≤ room → drop room (laid bytes room start from news) ≡ drop room bytes
laid_spare bytes room start from news s h = laid_past bytes room start from room news (λ i l. turn_within room start (from + i) s (omega arith))

pub slid_other : (bytes : List ℕ) (room start at gap n j : ℕ) → ((i : ℕ) → i < n → j ≢ turn room start (at + i)) → get_or (slid bytes room start at gap n) j 0 ≡ get_or bytes j 0
slid_other bytes room start at gap zero j ne = refl
slid_other bytes room start at gap (suc n) j ne =
    let here : at + 0 ≡ at = omega arith in
    let b = byte bytes room start (at + gap) in
    slid_other (set bytes (turn room start at) b) room start (at + 1) gap n j
    (λ i h e. let z : at + 1 + i ≡ at + suc i = omega arith in ne (suc i) (omega arith) (e ∙ ap (turn room start) z))
    ∙ get_or-set_other bytes (turn room start at) j b 0 (λ e. ne 0 (omega arith) (e ∙ ap (turn room start) (sym here)))

pub slid_before : (bytes : List ℕ) (room start at gap n i : ℕ) → start ≤ room → at + n ≤ room → i < at → byte (slid bytes room start at gap n) room start i ≡ byte bytes room start i
slid_before bytes room start at gap n i s h l = slid_other bytes room start at gap n (turn room start i) (λ k m. apart room start i (at + k) s (omega arith) (omega arith) (λ e. omega arith))

-- each byte that was moved
pub slid_there : (bytes : List ℕ) (room start at gap n i : ℕ) → start ≤ room → at + gap + n ≤ room → room ≤ length bytes → i < n
    → byte (slid bytes room start at gap n) room start (at + i) ≡ byte bytes room start (at + i + gap)
slid_there bytes room start at gap zero i s h k l = absurd (omega arith)
slid_there bytes room start at gap (suc n) zero s h k l =
    let b = byte bytes room start (at + gap) in
    let after = set bytes (turn room start at) b in
    let w = turn_within room start at s (omega arith) in
    let z : at + 0 ≡ at = omega arith in
    let y : at + gap ≡ at + 0 + gap = omega arith in
    ap (λ j. byte (slid after room start (at + 1) gap n) room start j) z
    ∙ slid_before after room start (at + 1) gap n at s (omega arith) (omega arith)
    ∙ get_or-set_same bytes (turn room start at) b 0 (omega arith)
    ∙ ap (byte bytes room start) y
slid_there bytes room start at gap (suc n) (suc i) s h k l =
    let b = byte bytes room start (at + gap) in
    let after = set bytes (turn room start at) b in
    let m = length-set bytes (turn room start at) b in
    let z : at + suc i ≡ at + 1 + i = omega arith in
    let y : at + 1 + i + gap ≡ at + suc i + gap = omega arith in
    ap (λ j. byte (slid after room start (at + 1) gap n) room start j) z
    ∙ slid_there after room start (at + 1) gap n i s (omega arith) (omega arith) (omega arith)
    ∙ get_or-set_other bytes (turn room start at) (turn room start (at + 1 + i + gap)) b 0 (apart room start (at + 1 + i + gap) at s (omega arith) (omega arith) (λ e. omega arith))
    ∙ ap (byte bytes room start) y

pub slid_spare : (bytes : List ℕ) (room start at gap n : ℕ) → start ≤ room → at + n ≤ room → drop room (slid bytes room start at gap n) ≡ drop room bytes
slid_spare bytes room start at gap zero s h = refl
slid_spare bytes room start at gap (suc n) s h =
    let b = byte bytes room start (at + gap) in
    slid_spare (set bytes (turn room start at) b) room start (at + 1) gap n s (omega arith)
    ∙ drop-set-lt room bytes (turn room start at) b (turn_within room start at s (omega arith))

-- the place of a parcel in front, closed up by beginning after it
pub closed_front : (bytes : List ℕ) (room start from l i : ℕ) → start ≤ room → from ≡ 0 → l + i < room
    → byte bytes room (turn room start l) i ≡ byte bytes room start (cond (ltb i from) i (i + l))
closed_front bytes room start from l i s z h =
    let e : l + i ≡ i + l = omega arith in
    ap (λ j. get_or bytes j 0) (turn_on room start l i s h) ∙ ap (byte bytes room start) (e ∙ sym (cond-false _ _ _ (le-ltb i from (omega arith))))

-- and elsewhere by moving down what lies after it
pub closed_middle : (bytes after : List ℕ) (room start from l used i : ℕ) → start ≤ room → room ≤ length bytes → used ≤ room → from + l ≤ used → i < used - l
    → after ≡ slid bytes room start from l (used - (from + l)) → byte after room start i ≡ byte bytes room start (cond (ltb i from) i (i + l))
closed_middle bytes after room start from l used i s k u f h e =
    let n = used - (from + l) in
    ap (λ bs. byte bs room start i) e ∙ ⊎_elim
    (λ below. slid_before bytes room start from l n i s (omega arith) below ∙ ap (byte bytes room start) (sym (cond-true _ _ _ (lt-ltb i from below))))
    (λ above.
    let z : i ≡ from + (i - from) = omega arith in
    let y : from + (i - from) + l ≡ i + l = omega arith in
    ap (byte (slid bytes room start from l n) room start) z ∙ slid_there bytes room start from l n (i - from) s (omega arith) k (omega arith)
    ∙ ap (byte bytes room start) (y ∙ sym (cond-false _ _ _ (le-ltb i from above))))
    (cases_lt i from)
