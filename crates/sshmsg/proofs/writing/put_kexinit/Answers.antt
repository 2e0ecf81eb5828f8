use Rattle.std.proofs.Common.{[], ◌∷◌}
use Rattle.sshwire.specs.Types.{boolean, name_list, uint32}
use Rattle.sshmsg.specs.Written.{written_message}
use Rattle.sshmsg.proofs.PutLemmas.{thirteen_parts}
use Rattle.sshmsg.proofs.writing.put_kexinit.Goals as goal

pub returns-clause-ok : goal.returns-clause-ok
unfolding written_message
returns-clause-ok c =
    let k = c.args.kexinit.now in
    rw (
      c.in_ok-put_u32.ensures.appends,
      c.in_ok-put_boolean.ensures.appends,
      c.in_ok-put_lists.ensures.ok,
      c.in_ok-extend_from_slice.ensures.items,
      c.in_ok-push.ensures.items,
    )
    (thirteen_parts c.args.out.now.items (20 ∷ []) k.cookie.now (name_list k.kex_algorithms) (name_list k.server_host_key_algorithms)
    (name_list k.encryption_client_to_server) (name_list k.encryption_server_to_client) (name_list k.mac_client_to_server)
    (name_list k.mac_server_to_client) (name_list k.compression_client_to_server) (name_list k.compression_server_to_client)
    (name_list k.languages_client_to_server) (name_list k.languages_server_to_client) (boolean k.first_kex_packet_follows) (uint32 0))
