use Rattle.std.proofs.Common.{◌≡◌, ◌∙◌, List, ℕ, Option, Some, sym}
use Rattle.sshcore.specs.RecordText.{FitsNames, names_text}
use Rattle.sshneg.specs.Fields.{AlgorithmsData}
use Rattle.sshcore.proofs.RecordLemmas.{absent, fits_there, there}
use Rattle.sshcore.proofs.record_reading.RecordReader.names.Goals as goal

same_names : (kex kex_ : List ℕ) (host_key host_key_ : List ℕ) (encryption_client_to_server encryption_client_to_server_ : List ℕ) (encryption_server_to_client encryption_server_to_client_ : List ℕ) (mac_client_to_server mac_client_to_server_ : List ℕ) (mac_server_to_client mac_server_to_client_ : List ℕ) (compression_client_to_server compression_client_to_server_ : List ℕ) (compression_server_to_client compression_server_to_client_ : List ℕ) → kex ≡ kex_ → host_key ≡ host_key_ → encryption_client_to_server ≡ encryption_client_to_server_ → encryption_server_to_client ≡ encryption_server_to_client_ → mac_client_to_server ≡ mac_client_to_server_ → mac_server_to_client ≡ mac_server_to_client_ → compression_client_to_server ≡ compression_client_to_server_ → compression_server_to_client ≡ compression_server_to_client_ → ◌≡◌ {A = Option AlgorithmsData} (Some (record { kex = kex; host_key = host_key; encryption_client_to_server = encryption_client_to_server; encryption_server_to_client = encryption_server_to_client; mac_client_to_server = mac_client_to_server; mac_server_to_client = mac_server_to_client; compression_client_to_server = compression_client_to_server; compression_server_to_client = compression_server_to_client })) (Some (record { kex = kex_; host_key = host_key_; encryption_client_to_server = encryption_client_to_server_; encryption_server_to_client = encryption_server_to_client_; mac_client_to_server = mac_client_to_server_; mac_server_to_client = mac_server_to_client_; compression_client_to_server = compression_client_to_server_; compression_server_to_client = compression_server_to_client_ }))
same_names _ _ _ _ _ _ _ _ _ _ _ _ _ _ _ _ e0 e1 e2 e3 e4 e5 e6 e7 = cc

pub returns-then-not-flag : goal.returns-then-not-flag
returns-then-not-flag c = λ x rest fits e.
    absent names_text c.args.self.now c.flag.new.self c.flag.result c.flag.ensures x rest c.if-not-flag.true e

pub returns : goal.returns
returns c = λ x rest fits e.
    let found = there names_text c.args.self.now c.flag.new.self c.flag.result c.flag.ensures x rest c.if-not-flag.false e in
    let k = found.0 in
    let f = fits_there FitsNames x k fits found.1 in
    let kex = c.bytes-kex.ensures k.kex _ f.kex found.2 in
    let host_key = c.bytes-host_key.ensures k.host_key _ f.host_key kex.1 in
    let encryption_client_to_server = c.bytes-encryption_client_to_server.ensures k.encryption_client_to_server _ f.encryption_client_to_server host_key.1 in
    let encryption_server_to_client = c.bytes-encryption_server_to_client.ensures k.encryption_server_to_client _ f.encryption_server_to_client encryption_client_to_server.1 in
    let mac_client_to_server = c.bytes-mac_client_to_server.ensures k.mac_client_to_server _ f.mac_client_to_server encryption_server_to_client.1 in
    let mac_server_to_client = c.bytes-mac_server_to_client.ensures k.mac_server_to_client _ f.mac_server_to_client mac_client_to_server.1 in
    let compression_client_to_server = c.bytes-compression_client_to_server.ensures k.compression_client_to_server _ f.compression_client_to_server mac_server_to_client.1 in
    let compression_server_to_client = c.bytes-compression_server_to_client.ensures k.compression_server_to_client _ f.compression_server_to_client compression_client_to_server.1 in
    (same_names _ _ _ _ _ _ _ _ _ _ _ _ _ _ _ _ kex.0 host_key.0 encryption_client_to_server.0 encryption_server_to_client.0 mac_client_to_server.0 mac_server_to_client.0 compression_client_to_server.0 compression_server_to_client.0 ∙ sym found.1, compression_server_to_client.1, compression_server_to_client.2 ∙ (compression_client_to_server.2 ∙ (mac_server_to_client.2 ∙ (mac_client_to_server.2 ∙ (encryption_server_to_client.2 ∙ (encryption_client_to_server.2 ∙ (host_key.2 ∙ (kex.2 ∙ found.3))))))))
