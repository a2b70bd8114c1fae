-- Texts that are written are read.
use Rattle.std.proofs.Common.{◌≡◌, ◌+◌, ◌-◌, ◌*◌, ◌/◌, ◌%◌, ◌<◌, ◌≤◌, ℕ, zero, suc, List, [], ◌∷◌, ◌++◌, false, Some, length, map, take, drop, replicate, arith, refl, sym, ap, ap₂, ◌∙◌, append_assoc, length-append, length-take, length-drop, subst}
use Rattle.std.specs.Prelude.{All, ◌||◌, ◌==◌, nat_lt}
use Rattle.std.specs.Int.{div_ceil}
use Rattle.std.proofs.lemmas.Bool.Decides.{nat_tests}
use Rattle.std.proofs.lemmas.List.{drop_at, get_or-drop, get_or-take}
use Rattle.dch_rlcpdu.specs.Fields.{Field, NoMoreField, AckField, ListField, MrwField, MrwAckField, fifteens, mrw_ack_fields, mrw_fields, mrw_status_fields, status_fields}
use Rattle.dch_rlcpdu.specs.Reading.{field_of, fields_of, is_cut, is_last, pairs_from, size_of, status_of, with_field}
use Rattle.dch_rlcpdu.specs.Writing.{IsText, ack_text, list_text, lists_text, mrw_ack_text, mrw_text, pairs_text, status_text}
use Rattle.dch_rlcpdu.proofs.Texts.{length-lists, length-pairs_text}

abbrev pub AreSmall : List (ℕ × ℕ) → Type 0
AreSmall ps = All (λ p. (p.0 < 4096) × (p.1 < 16)) ps

digits_number : (n : ℕ) → n < 4096 → 256 * (n / 256) + 16 * (n / 16 % 16) + n % 16 ≡ n
digits_number n small = omega arith

pairs_back : (ps : List (ℕ × ℕ)) (r : List ℕ) → AreSmall ps → pairs_from (length ps) (pairs_text ps ++ r) ≡ ps
pairs_back [] r small = refl
pairs_back (p ∷ ps) r small =
    ap₂ (λ (n : ℕ) (rest : List (ℕ × ℕ)). (n, p.1) ∷ rest) (digits_number p.0 (small 0 (0, 0) (omega arith)).0)
    (pairs_back ps r (λ i d below. small (suc i) d (omega arith)))

-- a field that stands whole in front of others
record Leads (ns : List ℕ) (f : Field) (r : List ℕ) : Type 0 where
  whole : is_cut ns ≡ false
  field : field_of ns ≡ f
  rest : drop (size_of ns) ns ≡ r

continues : (k : ℕ) (ns : List ℕ) (f : Field) (r : List ℕ) → Leads ns f r → is_last ns ≡ false → fields_of (suc k) ns ≡ with_field f (fields_of k r)
continues k ns f r l more = rw (l.whole, more) (ap₂ (λ g rest. with_field g (fields_of k rest)) l.field l.rest)

uncut : (size total : ℕ) → 0 < size → size ≤ total → (size == 0 || nat_lt total size) ≡ false
uncut size total some within = grind (arith, nat_tests)

-- a text of so many half octets in front
leads : (t r : List ℕ) (f : Field) → 0 < length t → size_of (t ++ r) ≡ length t → field_of (t ++ r) ≡ f → Leads (t ++ r) f r
leads t r f some size field = record {
  whole = uncut (size_of (t ++ r)) (length (t ++ r)) (omega arith) (omega (arith, length-append t r));
  field = field;
  rest = ap (λ n. drop n (t ++ r)) size ∙ drop_at t r (length t) refl;
}

list_leads : (ps : List (ℕ × ℕ)) (r : List ℕ) → 0 < length ps → AreSmall ps → Leads (list_text ps ++ r) (ListField ps) r
list_leads [] r some small = absurd (omega arith)
list_leads (p ∷ ps) r some small =
    let has : (suc (length ps) == 0) ≡ false = grind (arith, nat_tests) in
    leads (list_text (p ∷ ps)) r (ListField (p ∷ ps)) (omega arith)
    (rw has (omega (arith, length-pairs_text ps)))
    (ap ListField (pairs_back (p ∷ ps) r small))

mrw_leads : (sn n : ℕ) (r : List ℕ) → sn < 4096 → Leads (mrw_text sn n ++ r) (MrwField sn n) r
mrw_leads sn n r small = leads (mrw_text sn n) r (MrwField sn n) (omega arith) refl (ap (λ m. MrwField m n) (digits_number sn small))

mrw_ack_leads : (n sn : ℕ) (r : List ℕ) → sn < 4096 → Leads (mrw_ack_text n sn ++ r) (MrwAckField n sn) r
mrw_ack_leads n sn r small = leads (mrw_ack_text n sn) r (MrwAckField n sn) (omega arith) refl (ap (MrwAckField n) (digits_number sn small))

ack_back : (k lsn : ℕ) (r : List ℕ) → lsn < 4096 → fields_of (suc k) (ack_text lsn ++ r) ≡ Some (AckField lsn ∷ [])
ack_back k lsn r small =
    let whole : is_cut (ack_text lsn ++ r) ≡ false = uncut 4 (length (ack_text lsn ++ r)) (omega arith) (omega arith) in
    rw whole (ap (λ n. Some (AckField n ∷ [])) (digits_number lsn small))

no_more_back : (k : ℕ) (r : List ℕ) → fields_of (suc k) (0 ∷ r) ≡ Some (NoMoreField ∷ [])
no_more_back k r =
    let whole : is_cut (0 ∷ r) ≡ false = uncut 1 (length (0 ∷ r)) (omega arith) (omega arith) in
    rw whole refl

length-fifteens : (f : ℕ) (ps : List (ℕ × ℕ)) → length ps ≤ f → length (fifteens f ps) ≤ length ps
length-fifteens zero ps within = omega arith
length-fifteens (suc f) [] within = omega arith
length-fifteens (suc f) (p ∷ ps) within = omega (arith, length-fifteens f (drop 14 ps) (omega (arith, length-drop 14 ps)), length-drop 14 ps)

lists_back : (f m : ℕ) (ps : List (ℕ × ℕ)) (lsn : ℕ) (r : List ℕ) → length ps ≤ f → length (fifteens f ps) < m → AreSmall ps → lsn < 4096 → fields_of m (lists_text (fifteens f ps) ++ (ack_text lsn ++ r)) ≡ Some (map ListField (fifteens f ps) ++ AckField lsn ∷ [])
lists_back f zero ps lsn r within more small number = absurd (omega arith)
lists_back zero (suc m) ps lsn r within more small number = ack_back m lsn r number
lists_back (suc f) (suc m) [] lsn r within more small number = ack_back m lsn r number
lists_back (suc f) (suc m) (p ∷ ps) lsn r within more small number =
    let tail : List ℕ = lists_text (fifteens f (drop 14 ps)) ++ (ack_text lsn ++ r) in
    let front : Leads (list_text (take 15 (p ∷ ps)) ++ tail) (ListField (take 15 (p ∷ ps))) tail =
    list_leads (take 15 (p ∷ ps)) tail (omega arith)
    (λ i d below. subst (λ (q : ℕ × ℕ). (q.0 < 4096) × (q.1 < 16)) (sym (get_or-take 15 (p ∷ ps) i d (omega (arith, length-take 15 (p ∷ ps))))) (small i d (omega (arith, length-take 15 (p ∷ ps))))) in
    let rest : fields_of m tail ≡ Some (map ListField (fifteens f (drop 14 ps)) ++ AckField lsn ∷ []) =
    lists_back f m (drop 14 ps) lsn r (omega (arith, length-drop 14 ps)) (omega arith)
    (λ i d below. subst (λ (q : ℕ × ℕ). (q.0 < 4096) × (q.1 < 16)) (sym (get_or-drop 14 ps i d)) (small (suc (14 + i)) d (omega (arith, length-drop 14 ps)))) number in
    ap (fields_of (suc m)) (append_assoc (list_text (take 15 (p ∷ ps))) (lists_text (fifteens f (drop 14 ps))) (ack_text lsn ++ r))
    ∙ (continues m (list_text (take 15 (p ∷ ps)) ++ tail) (ListField (take 15 (p ∷ ps))) tail front refl ∙ ap (with_field (ListField (take 15 (p ∷ ps)))) rest)

status_from : (m : ℕ) (ps : List (ℕ × ℕ)) (lsn : ℕ) (r : List ℕ) → length ps < m → AreSmall ps → lsn < 4096 → fields_of m (status_text ps lsn ++ r) ≡ Some (status_fields ps lsn)
status_from m ps lsn r more small number =
    ap (fields_of m) (append_assoc (lists_text (fifteens (length ps) ps)) (ack_text lsn) r)
    ∙ lists_back (length ps) m ps lsn r (omega arith) (omega (arith, length-fifteens (length ps) ps (omega arith))) small number

-- the fields of octets whose half octets are a text and zeros
read_text : (octets text : List ℕ) → IsText octets (0 ∷ text) → status_of octets ≡ fields_of (2 * length octets) (text ++ replicate (2 * length octets - length (0 ∷ text)) 0)
read_text octets text is = ap (λ hs. fields_of (2 * length octets) (drop 1 hs)) is.is

pub status_back : (octets : List ℕ) (ps : List (ℕ × ℕ)) (lsn : ℕ) → IsText octets (0 ∷ status_text ps lsn) → length ps < 2 * length octets → AreSmall ps → lsn < 4096 → status_of octets ≡ Some (status_fields ps lsn)
status_back octets ps lsn is more small number =
    read_text octets (status_text ps lsn) is ∙ status_from (2 * length octets) ps lsn (replicate (2 * length octets - length (0 ∷ status_text ps lsn)) 0) more small number

-- NO_MORE stands behind a text that leaves room
no_more_next : (octets text : List ℕ) (f : Field) → IsText octets (0 ∷ text) → suc (length text) < 2 * length octets → 1 < 2 * length octets → ((r : List ℕ) → Leads (text ++ r) f r) → is_last text ≡ false → ((r : List ℕ) → is_last (text ++ r) ≡ is_last text) → status_of octets ≡ Some (f ∷ NoMoreField ∷ [])
no_more_next octets text f is room fuel lead more same =
    let left : 2 * length octets - suc (length text) ≡ suc (2 * length octets - suc (length text) - 1) = omega arith in
    let twice : 2 * length octets ≡ suc (suc (2 * length octets - 2)) = omega arith in
    let zeros : List ℕ = replicate (2 * length octets - suc (length text) - 1) 0 in
    read_text octets text is
    ∙ (ap₂ (λ m k. fields_of m (text ++ replicate k 0)) twice left
    ∙ (continues (suc (2 * length octets - 2)) (text ++ (0 ∷ zeros)) f (0 ∷ zeros) (lead (0 ∷ zeros)) (same (0 ∷ zeros) ∙ more)
    ∙ ap (with_field f) (no_more_back (2 * length octets - 2) zeros)))

pub mrw_back : (octets : List ℕ) (sn n : ℕ) → IsText octets (0 ∷ mrw_text sn n) → 4 ≤ length octets → sn < 4096 → status_of octets ≡ Some (mrw_fields sn n)
mrw_back octets sn n is room small = no_more_next octets (mrw_text sn n) (MrwField sn n) is (omega arith) (omega arith) (λ r. mrw_leads sn n r small) refl (λ r. refl)

pub mrw_ack_back : (octets : List ℕ) (n sn : ℕ) → IsText octets (0 ∷ mrw_ack_text n sn) → 4 ≤ length octets → sn < 4096 → status_of octets ≡ Some (mrw_ack_fields n sn)
mrw_ack_back octets n sn is room small = no_more_next octets (mrw_ack_text n sn) (MrwAckField n sn) is (omega arith) (omega arith) (λ r. mrw_ack_leads n sn r small) refl (λ r. refl)

pub mrw_status_back : (octets : List ℕ) (n sn : ℕ) (ps : List (ℕ × ℕ)) (lsn : ℕ) → IsText octets (0 ∷ (mrw_ack_text n sn ++ status_text ps lsn)) → suc (length ps) < 2 * length octets → sn < 4096 → AreSmall ps → lsn < 4096 → status_of octets ≡ Some (mrw_status_fields n sn ps lsn)
mrw_status_back octets n sn ps lsn is more mrw small number =
    let once : 2 * length octets ≡ suc (2 * length octets - 1) = omega arith in
    let zeros : List ℕ = replicate (2 * length octets - length (0 ∷ (mrw_ack_text n sn ++ status_text ps lsn))) 0 in
    read_text octets (mrw_ack_text n sn ++ status_text ps lsn) is
    ∙ (ap (λ m. fields_of m ((mrw_ack_text n sn ++ status_text ps lsn) ++ zeros)) once
    ∙ (ap (fields_of (suc (2 * length octets - 1))) (append_assoc (mrw_ack_text n sn) (status_text ps lsn) zeros)
    ∙ (continues (2 * length octets - 1) (mrw_ack_text n sn ++ (status_text ps lsn ++ zeros)) (MrwAckField n sn) (status_text ps lsn ++ zeros) (mrw_ack_leads n sn (status_text ps lsn ++ zeros) mrw) refl
    ∙ ap (with_field (MrwAckField n sn)) (status_from (2 * length octets - 1) ps lsn zeros (omega arith) small number))))

-- how many half octets a status has
pub length-status : (ps : List (ℕ × ℕ)) (lsn : ℕ) → length (status_text ps lsn) ≡ 4 + 2 * div_ceil (length ps) 15 + 4 * length ps
length-status ps lsn = omega (arith, length-append (lists_text (fifteens (length ps) ps)) (ack_text lsn), length-lists (length ps) ps (omega arith))
