-- What a head and the bytes behind it lead to, once more bytes were read.
use Rattle.std.proofs.Common.{◌≡◌, inl, inr, ℕ, ◌+◌, ◌<◌, ◌≤◌, Bool, true, List, ◌++◌, length, max, take, drop, slice_range, refl, sym, ap, subst, ◌∙◌, arith, length-take, length-drop, take-append-drop, take-take}
use Rattle.std.proofs.lemmas.Bool.{cases_lt}
use Rattle.std.proofs.lemmas.List.{drop-append-le, length-map}
use Rattle.httparse.specs.Grammar.{RequestHead, ReadsRequest}
use Rattle.httparse.specs.Spans.{IsRequestWithin, IsRequestAt, header_bytes, name_and_value}
use Rattle.httparse.specs.declared.spans.HeaderSpan.{HeaderSpan}
use Rattle.httparse.specs.declared.spans.RequestSpans.{RequestSpans}
use Rattle.httparse.proofs.GrammarLemmas.{ReadsRequest-append}
use Rattle.sg_http.specs.declared.refusal.Refusal.TheVariants as refusal
use Rattle.sg_http.specs.declared.asking.Asked.{Asked}
use Rattle.sg_http.specs.declared.asking.Asked.TheVariants as asks
use Rattle.sg_http.specs.Leads.{HasHead, IsUnheard, LeadTo, LeadsBehind, TakesFew, asked_of}
use Rattle.sg_http.specs.Leads.Lead.{Refused, Posts}

-- the head that was read has few header lines
few_fields : (text : List ℕ) (headers : List HeaderSpan) (spans : RequestSpans) (head : RequestHead) → length headers ≡ 64
    → IsRequestAt text headers spans head → length head.fields ≤ 64
few_fields text headers spans head room at =
    omega (arith, length-map head.fields name_and_value, ap (λ (l : List (List ℕ × List ℕ)). length l) at.fields, length-map (take spans.headers headers) (header_bytes text), length-take spans.headers headers)

-- a head stays at the front where more bytes follow
grown_head : (text more : List ℕ) (headers : List HeaderSpan) (spans : RequestSpans) (head : RequestHead) → length headers ≡ 64
    → spans.len ≤ length text → IsRequestAt text headers spans head → HasHead (text ++ more) head (drop spans.len (text ++ more))
grown_head text more headers spans head room within at = record {
  reads = subst (λ (rest : List ℕ). ReadsRequest (text ++ more) head rest) (sym (drop-append-le spans.len text more within))
      (ReadsRequest-append text head (drop spans.len text) more at.reads);
  few = few_fields text headers spans head room at;
}

-- bytes that were read behind others
grown : (old new : List ℕ) (end end' : ℕ) → end ≤ end' → take end new ≡ take end old → take end' new ≡ take end old ++ drop end (take end' new)
grown old new end end' order same =
    sym (take-append-drop end (take end' new)) ∙ ap (λ (l : List ℕ). l ++ drop end (take end' new)) (take-take end end' new order ∙ same)

pub heard_head : (old new : List ℕ) (end end' : ℕ) (headers : List HeaderSpan) (spans : RequestSpans) (head : RequestHead)
    → end ≤ end' → take end new ≡ take end old → length headers ≡ 64 → IsRequestWithin (take end old) headers spans
    → IsRequestAt (take end old) headers spans head → HasHead (take end' new) head (drop spans.len (take end' new))
heard_head old new end end' headers spans head order same room within at =
    subst (λ (text : List ℕ). HasHead text head (drop spans.len text)) (sym (grown old new end end' order same))
    (grown_head (take end old) (drop end (take end' new)) headers spans head room within.section.len_fits at)

-- the whole body came
pub leads_posts : (text : List ℕ) (head : RequestHead) (len n : ℕ) (is_ended : Bool) → HasHead text head (drop len text) → asks.Body n ≡ asked_of head
    → len + n ≤ length text → LeadTo text is_ended (Posts (slice_range text len (len + n)))
leads_posts text head len n is_ended has asked all = inl (record {
  head = head;
  rest = drop len text;
  has = has;
  leads = subst (λ (a : Asked). LeadsBehind a (drop len text) is_ended (Posts (slice_range text len (len + n)))) asked
      (inl (omega (arith, length-drop len text), ap (λ k. Posts (take k (drop len text))) (omega arith)));
})

-- the connection ended before
pub leads_short : (text : List ℕ) (head : RequestHead) (len n : ℕ) (is_ended : Bool) → HasHead text head (drop len text) → asks.Body n ≡ asked_of head
    → len ≤ length text → length text < len + n → is_ended ≡ true → LeadTo text is_ended (Refused refusal.Body)
leads_short text head len n is_ended has asked within short ended = inl (record {
  head = head;
  rest = drop len text;
  has = has;
  leads = subst (λ (a : Asked). LeadsBehind a (drop len text) is_ended (Refused refusal.Body)) asked
      (inr (omega (arith, length-drop len text), ended, refl));
})

-- the bytes that were taken are few
pub few_in_head : (bytes : List ℕ) (end : ℕ) → end ≤ 8192 → TakesFew (take end bytes)
few_in_head bytes end short =
    let size : length (take end bytes) ≤ 8192 = omega (arith, short, length-take end bytes) in
    record { most = omega (arith, size); only = inl size }

few_in_body : (text : List ℕ) (head : RequestHead) (len n : ℕ) → HasHead text head (drop len text) → asks.Body n ≡ asked_of head
    → len ≤ 8192 → n ≤ 65536 → length text ≤ len + n → TakesFew text
few_in_body text head len n has asked short size few = record {
  most = omega (arith, short, size, few);
  only = inr (record {
    head = head;
    rest = drop len text;
    count = n;
    has = has;
    asked = sym asked;
    short = omega (arith, short, length-drop len text);
    few = omega (arith, few, length-drop len text);
  });
}

pub few_behind : (bytes : List ℕ) (head : RequestHead) (len n first end : ℕ) → HasHead (take end bytes) head (drop len (take end bytes)) → asks.Body n ≡ asked_of head
    → len ≤ first → first ≤ 8192 → n ≤ 65536 → end ≤ max first (len + n) → TakesFew (take end bytes)
few_behind bytes head len n first end has asked within short size most =
    elim (cases_lt first end) [
      | inl more ↦ few_in_body (take end bytes) head len n has asked (omega (arith, within, short)) size (omega (arith, more, most, length-take end bytes))
      | inr enough ↦ few_in_head bytes end (omega (arith, enough, short))
    ]

-- a read failed before
pub unheard : (text : List ℕ) (head : RequestHead) (len n : ℕ) → HasHead text head (drop len text) → asks.Body n ≡ asked_of head
    → len ≤ length text → length text < len + n → IsUnheard text
unheard text head len n has asked within short =
    inr (head, drop len text, n, has, sym asked, omega (arith, length-drop len text))
