-- SPDX-License-Identifier: Apache-2.0
pub mod Standing
pub mod Steps
pub mod Call
pub mod Rules
