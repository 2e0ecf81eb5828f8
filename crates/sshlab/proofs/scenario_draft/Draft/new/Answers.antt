use Rattle.std.proofs.Common.{◌≡◌, ◌∙◌, map, ap}
use Rattle.sshcore.specs.ConfigView.{client_data, host_key_data, server_data}
use Rattle.sshlabsuites.specs.LabConfigs.{lab_server}
use Rattle.sshwire.proofs.OwnedLemmas.{there}
use Rattle.sshlab.proofs.ScenarioDraftLemmas.{none_read}
use Rattle.sshlab.proofs.scenario_draft.Draft.new.Goals as goal

pub returns : goal.returns
returns c =
    let two = c.in_ok-client-2.ensures in
    let made = c.lab_server_parts in
    none_read _ _ _ _ _ _ (ap client_data two.first ∙ c.in_ok-client.ensures)
    (there made.result (λ parts. server_data parts ≡ lab_server) _ two.other made.ensures) (ap (map host_key_data) c.new.ensures.items) c.new-2.ensures
    c.new-3.ensures.items c.new-4.ensures.items
