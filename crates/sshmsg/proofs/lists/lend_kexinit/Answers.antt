use Rattle.std.proofs.Common.{rules, ◌≡◌, Bool, Err}
use Rattle.sshwire.specs.declared.fault.WireFault.{WireFault}
use Rattle.sshmsg.specs.Form.{form_at}
use Rattle.sshmsg.specs.Lists.{end_at, ten_at}
use Rattle.sshmsg.specs.MessageData.{kexinit}
use Rattle.sshmsg.proofs.OfferLemmas.{all_parts, no_cookie, no_end, no_lists, refused, went}
use Rattle.sshmsg.proofs.lists.lend_kexinit.Goals as goal

pub returns-in_err-cookie : goal.returns-in_err-cookie
returns-in_err-cookie c = search (rules, no_cookie)

pub returns-in_err-lists : goal.returns-in_err-lists
returns-in_err-lists c =
    let none : (fault : WireFault) → ten_at c.read_cookie.new.reader ≡ Err fault → form_at kexinit c.args.reader.now ≡ Err fault =
    λ fault. no_lists c.args.reader.now c.in_ok-cookie.cookie.now c.read_cookie.new.reader fault c.in_ok-cookie.ensures in
    search (rules, none)

pub returns-in_err-lists-2 : goal.returns-in_err-lists-2
returns-in_err-lists-2 c =
    let end : end_at c.lend_ten.new.reader ≡ Err c.in_err-lists-2.field-0.0 =
    refused (λ (follows : Bool). follows) c.read_end-follows.result c.in_err-lists-2.field-0.0 c.read_end-follows.new.reader (end_at c.lend_ten.new.reader)
    c.in_err-lists-2.ensures.fault c.read_end-follows.ensures in
    let none : form_at kexinit c.args.reader.now ≡ Err c.in_err-lists-2.field-0.0 =
    no_end c.args.reader.now c.in_ok-cookie.cookie.now c.read_cookie.new.reader c.lend_ten.new.reader c.in_ok-lists.lists c.in_err-lists-2.field-0.0
    c.in_ok-cookie.ensures c.in_ok-lists.ensures end in
    search (rules, none)

pub returns : goal.returns
returns c = all_parts c.args.reader.now c.in_ok-cookie.cookie.now c.read_cookie.new.reader c.lend_ten.new.reader c.read_end-follows.new.reader
    c.in_ok-lists-2.lists c.in_ok-lists-2.follows _ c.in_ok-cookie.ensures (rw c.in_ok-lists-2.ensures.first c.in_ok-lists.ensures)
    (went (λ (follows : Bool). follows) c.read_end-follows.result c.in_ok-lists-2.follows c.read_end-follows.new.reader (end_at c.lend_ten.new.reader)
    c.in_ok-lists-2.ensures.other c.read_end-follows.ensures)
    c.lent_kexinit.ensures
