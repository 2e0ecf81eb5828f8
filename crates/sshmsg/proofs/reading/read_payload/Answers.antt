use Rattle.std.proofs.Common.{rules, ◌≡◌, ◌∷◌}
use Rattle.sshmsg.proofs.ListLemmas.{ext_info_read, failure_read, kexinit_read}
use Rattle.sshmsg.proofs.reading.read_payload.Goals as goal

pub returns-in-7-clause-exact : goal.returns-in-7-clause-exact
returns-in-7-clause-exact c =
    let is : c.args.payload.now ≡ 7 ∷ c.in-Some.fields.now = search rules in
    rw (ext_info_read c.args.form c.args.payload.now c.in-Some.fields.now is) c.read_ext_info.ensures.exact

pub returns-in-7-clause-memory : goal.returns-in-7-clause-memory
returns-in-7-clause-memory c =
    let is : c.args.payload.now ≡ 7 ∷ c.in-Some.fields.now = search rules in
    rw (ext_info_read c.args.form c.args.payload.now c.in-Some.fields.now is) c.read_ext_info.ensures.memory

pub returns-in-20-clause-exact : goal.returns-in-20-clause-exact
returns-in-20-clause-exact c =
    let is : c.args.payload.now ≡ 20 ∷ c.in-Some.fields.now = search rules in
    rw (kexinit_read c.args.form c.args.payload.now c.in-Some.fields.now is) c.read_kexinit.ensures.exact

pub returns-in-20-clause-memory : goal.returns-in-20-clause-memory
returns-in-20-clause-memory c =
    let is : c.args.payload.now ≡ 20 ∷ c.in-Some.fields.now = search rules in
    rw (kexinit_read c.args.form c.args.payload.now c.in-Some.fields.now is) c.read_kexinit.ensures.memory

pub returns-in-51-clause-exact : goal.returns-in-51-clause-exact
returns-in-51-clause-exact c =
    let is : c.args.payload.now ≡ 51 ∷ c.in-Some.fields.now = search rules in
    rw (failure_read c.args.form c.args.payload.now c.in-Some.fields.now is) c.read_userauth_failure.ensures.exact

pub returns-in-51-clause-memory : goal.returns-in-51-clause-memory
returns-in-51-clause-memory c =
    let is : c.args.payload.now ≡ 51 ∷ c.in-Some.fields.now = search rules in
    rw (failure_read c.args.form c.args.payload.now c.in-Some.fields.now is) c.read_userauth_failure.ensures.memory
